-- What a register represents in every world: all that was carried out is one run, and the rows are just those of it.
use Rattle.std.proofs.Common.{ℕ, ◌≡◌, ◌∙◌, ◌+◌, ◌<◌, ◌≤◌, List, [], ◌∷◌, ◌++◌, All, AllPairs, flat_map, length, get_or, set, map, replicate, take}
use Rattle.std.proofs.Common.{Option, Some, None, refl, sym, ap, ap₂, subst, arith, append_assoc, append-nil, length-append, ◌⊎◌, inl, inr}
use Rattle.std.proofs.lemmas.Grind.{flat_map-append}
use Rattle.std.proofs.lemmas.List.{map-append, take-append-le}
use Rattle.std.proofs.lemmas.List.Elements.{All-nil, All-push, All-weaker}
use Rattle.std.proofs.Math.Seq.{take-length}
use Rattle.nrm_control.specs.State.{SeatState}
use Rattle.nrm_control.specs.Standing.{ControlValue, IsControl, Represents}
use Rattle.nrm_control.proofs.States.{some-state}
use Rattle.nrm_frames.specs.Frames.{Frame}
use Rattle.nrm_frames.specs.Outgoing.{Output, close, keep, ready, send}
use Rattle.nrm_frames.specs.declared.header.Header.{Header}
use Rattle.nrm_frames.specs.declared.header.Header.TheVariants as header
use Rattle.nrm_frames.specs.declared.why.Why.TheVariants as why
use Rattle.nrm_hub.specs.Clients.{ClientValue, after_telling, closed_for, joined_as, new_client, with_piece}
use Rattle.nrm_hub.specs.Desks.{IsFrontOf, IsOneRun, NumbersRise, HasItsReply, Turn, entry_of, rows_again, rows_given, rows_in, rows_out, seller_of}
use Rattle.nrm_hub.specs.Desks.{turn_again, turn_of, turns_in}
use Rattle.nrm_hub.specs.Hub.{HubValue, after_closing, client_at, seated_after}
use Rattle.nrm_hub.specs.Lines.{How, carried, otherwise, passed, repeated}
use Rattle.nrm_hub.specs.Register.{Joins, RegisterValue, desk_at, name_at}
use Rattle.nrm_hub.specs.Rows.{Entry, rows_text}
use Rattle.nrm_hub.specs.Spare.{IsSpare}
use Rattle.nrm_hub.specs.Taking.{TakesLine}
use Rattle.nrm_hub.specs.World.{Comes, Exchange, GivesAgain, Happens, IsNothing, World, after_frame, after_output, at_one, beginning, exchange_of}
use Rattle.nrm_hub.specs.World.{frame, with_answered, with_desk}
use Rattle.nrm_hub.specs.World.{all_told, asked_to_keep, becomes_desk, ended, here, left, line_taken, opened, passed_over, piece_came, places_made, readied}
use Rattle.nrm_hub.specs.World.{rows_again as given_again, said_to_be_kept, then, too_long, too_much_came, was_closed, was_not_opened, was_told}
use Rattle.nrm_hub.specs.declared.phase.Phase.{Phase}
use Rattle.nrm_hub.specs.declared.phase.Phase.TheVariants as phase
use Rattle.nrm_hub.proofs.RegisterFits.{FitsIn, fits-again, fits-joined, fits-new, joined, text-again, unused-spare}
use Rattle.nrm_hub.proofs.RegisterLines.{IsBelow, IsSeated, became-taken, seated-more, unseated-seated}
use Rattle.nrm_hub.proofs.RegisterLists.{among-longer, at-nones, at-set, rows-joined}
use Rattle.nrm_hub.proofs.Phases.{Follows, follows-closing, follows-ended, follows-same, follows-settled, follows-telling, frames-replayed, lines-frames}
use Rattle.nrm_hub.proofs.Unseated.{seated-so}

-- ---- what is said of rows that were given, and of what is kept
-- rows are given again: nobody is there, nothing was answered, and nothing was given out
pub record IsReplaying (w : World) : Type 0 where
  pub nobody : w.hub.clients ≡ []
  pub unanswered : w.answered ≡ []
  pub text : w.hub.register.text ≡ []
  pub out : flat_map rows_out w.outputs ≡ []

pub record Given (w : World) : Type 0 where
  pub rows : rows_given w ++ w.hub.register.text ≡ rows_text 0 (rows_in w)
  pub asked : w.hub.phase ≡ phase.Asked → w.hub.register.text ≡ []
  pub within : w.safe ≤ length w.answered
  pub telling : w.hub.phase ≡ phase.Telling → w.safe ≡ length w.answered
  pub settled : w.hub.phase ≡ phase.Settled → w.safe ≡ length w.answered
  pub kept : IsFrontOf (rows_text 0 (w.again ++ flat_map entry_of (take w.safe w.answered))) (rows_given w)
  pub replaying : w.hub.phase ≡ phase.Replaying → IsReplaying w

pub record Stands (start : ControlValue) (w : World) : Type 0 where
  pub fits : FitsIn start w.hub.register (rows_in w) (turns_in w)
  pub replies : All (λ (e : Exchange). HasItsReply (rows_in w) e e.how) w.answered
  pub given : Given w
  pub seated : (place : ℕ) → IsSeated (length w.hub.register.desks) (client_at w.hub place)

stands-new : (start : ControlValue) → Stands start (beginning start)
stands-new start = record {
  fits = fits-new start;
  replies = All-nil (λ (e : Exchange). HasItsReply [] e e.how);
  given = record {
    rows = refl;
    asked = λ e. refl;
    within = omega arith;
    telling = λ e. absurd (cc);
    settled = λ e. absurd (cc);
    kept = ([], refl);
    replaying = λ e. record { nobody = refl; unanswered = refl; text = refl; out = refl };
  };
  seated = λ place. tt;
}

-- ---- frames that bring no rows, and give none out
no-rows-came : (inputs : List Frame) (f : Frame) → rows_again f ≡ [] → flat_map rows_again (inputs ++ f ∷ []) ≡ flat_map rows_again inputs
no-rows-came inputs f none = flat_map-append rows_again inputs (f ∷ [])
    ∙ ap (λ (rows : List ℕ). flat_map rows_again inputs ++ (rows ++ [])) none ∙ append-nil (flat_map rows_again inputs)

no-rows-out : (outputs : List Output) (o : Output) → rows_out o ≡ [] → flat_map rows_out (outputs ++ o ∷ []) ≡ flat_map rows_out outputs
no-rows-out outputs o none = flat_map-append rows_out outputs (o ∷ [])
    ∙ ap (λ (rows : List ℕ). flat_map rows_out outputs ++ (rows ++ [])) none ∙ append-nil (flat_map rows_out outputs)

nothing-came : (hub : HubValue) (h : Header) (payload : List ℕ) → IsNothing hub h → rows_again (frame h payload) ≡ []
nothing-came hub (header.Again size) payload nothing = absurd nothing
nothing-came hub (header.Open place name rights) payload nothing = refl
nothing-came hub (header.Came place size) payload nothing = refl
nothing-came hub (header.Gone place) payload nothing = refl
nothing-came hub header.Kept payload nothing = refl
nothing-came hub header.End payload nothing = refl

safe-all : (w : World) → Given w → (w.hub.phase ≡ phase.Settled) ⊎ ((w.hub.phase ≡ phase.Telling) ⊎ (w.hub.phase ≡ phase.Replaying))
    → w.safe ≡ length w.answered
safe-all w g (inl is) = g.settled is
safe-all w g (inr (inl is)) = g.telling is
safe-all w g (inr (inr is)) =
    let none : length w.answered ≡ 0 = ap (λ (l : List Exchange). length l) (g.replaying is).unanswered in
    omega (arith, g.within, none)

-- ---- what leaves the register, the lines that were answered and what is kept as they are
module _ (start : ControlValue) (w : World) (s : Stands start w) where
  still : (clients : List (Option ClientValue)) (many : ℕ) (p : Phase) (inputs : List Frame) (outputs : List Output) (came sent : ℕ → List ℕ) (used : ℕ → ℕ)
      → flat_map rows_again inputs ≡ flat_map rows_again w.inputs → flat_map rows_out outputs ≡ flat_map rows_out w.outputs
      → Follows w.hub.phase p → ((place : ℕ) → IsSeated (length w.hub.register.desks) (get_or clients place None))
      → Stands start (record w {
        hub = record w.hub { clients = clients; opened = many; phase = p };
        inputs = inputs;
        outputs = outputs;
        came = came;
        sent = sent;
        used = used;
      })
  still clients many p inputs outputs came sent used ins outs follows seats = record {
    fits = s.fits;
    replies = s.replies;
    given = record {
      rows = ap₂ (λ (a b : List ℕ). (a ++ b) ++ w.hub.register.text) ins outs ∙ s.given.rows;
      asked = λ e. s.given.asked (follows.asked e);
      within = s.given.within;
      telling = λ e. s.given.telling (follows.telling e);
      settled = λ e. safe-all w s.given (follows.settled e);
      kept = subst (λ (rows : List ℕ). IsFrontOf (rows_text 0 (w.again ++ flat_map entry_of (take w.safe w.answered))) rows)
          (sym (ap₂ (λ (a b : List ℕ). a ++ b) ins outs)) s.given.kept;
      replaying = λ e. absurd (follows.replaying e);
    };
    seated = seats;
  }

  -- the client at a place changes
  seats-set : (place : ℕ) (c : Option ClientValue) → IsSeated (length w.hub.register.desks) c → (k : ℕ)
      → IsSeated (length w.hub.register.desks) (get_or (set w.hub.clients place c) k None)
  seats-set place c one = at-set (IsSeated (length w.hub.register.desks)) None w.hub.clients place c one s.seated

  seat-of : (place : ℕ) (c : ClientValue) → client_at w.hub place ≡ Some c → IsBelow c.desk (length w.hub.register.desks)
  seat-of place c at = subst (λ (o : Option ClientValue). IsSeated (length w.hub.register.desks) o) at (s.seated place)

  changed : (place : ℕ) (c : Option ClientValue) (many : ℕ) (p : Phase) (inputs : List Frame) (outputs : List Output) (came sent : ℕ → List ℕ) (used : ℕ → ℕ)
      → flat_map rows_again inputs ≡ flat_map rows_again w.inputs → flat_map rows_out outputs ≡ flat_map rows_out w.outputs
      → Follows w.hub.phase p → IsSeated (length w.hub.register.desks) c
      → Stands start (record w {
        hub = record w.hub { clients = set w.hub.clients place c; opened = many; phase = p };
        inputs = inputs;
        outputs = outputs;
        came = came;
        sent = sent;
        used = used;
      })
  changed place c many p inputs outputs came sent used ins outs follows one =
      still (set w.hub.clients place c) many p inputs outputs came sent used ins outs follows (seats-set place c one)

  -- ---- rows are given again
  on-again : (payload : List ℕ) (rows : List Entry) (r : RegisterValue) → (s : SeatState) × Represents start s
      → w.hub.phase ≡ phase.Replaying → payload ≡ rows_text w.hub.register.rows rows → GivesAgain w.hub.register rows r
      → Stands start (record (after_frame w (frame (header.Again (length payload)) payload) (record w.hub { register = r })) {
        again = w.again ++ rows;
      })
  on-again payload rows r begun replaying payload_is again =
      let was : IsReplaying w = s.given.replaying replaying in
      let unanswered : w.answered ≡ [] = was.unanswered in
      let text : w.hub.register.text ≡ [] = was.text in
      let out : flat_map rows_out w.outputs ≡ [] = was.out in
      let all : (w.again ++ rows) ++ flat_map entry_of w.answered ≡ rows_in w ++ rows =
      ap (λ (l : List Exchange). (w.again ++ rows) ++ flat_map entry_of l) unanswered ∙ append-nil (w.again ++ rows)
      ∙ ap (λ (l : List Entry). l ++ rows) (sym (append-nil w.again))
      ∙ ap (λ (l : List Exchange). (w.again ++ flat_map entry_of l) ++ rows) (sym unanswered) in
      let turns : map turn_again (w.again ++ rows) ++ flat_map turn_of w.answered ≡ turns_in w ++ map turn_again rows =
      ap (λ (l : List Exchange). map turn_again (w.again ++ rows) ++ flat_map turn_of l) unanswered
      ∙ append-nil (map turn_again (w.again ++ rows)) ∙ map-append turn_again w.again rows
      ∙ ap (λ (l : List Turn). l ++ map turn_again rows) (sym (append-nil (map turn_again w.again)))
      ∙ ap (λ (l : List Exchange). (map turn_again w.again ++ flat_map turn_of l) ++ map turn_again rows) (sym unanswered) in
      let r_text : r.text ≡ [] = text-again w.hub.register rows r again text in
      let came : flat_map rows_again (w.inputs ++ frame (header.Again (length payload)) payload ∷ []) ≡ flat_map rows_again w.inputs ++ payload =
      flat_map-append rows_again w.inputs (frame (header.Again (length payload)) payload ∷ [])
      ∙ ap (λ (l : List ℕ). flat_map rows_again w.inputs ++ l) (append-nil payload) in
      let before : flat_map rows_again w.inputs ≡ rows_text 0 (rows_in w) =
      sym (append-nil (flat_map rows_again w.inputs)) ∙ ap (λ (l : List ℕ). flat_map rows_again w.inputs ++ l) (sym out)
      ∙ sym (append-nil (rows_given w)) ∙ ap (λ (l : List ℕ). rows_given w ++ l) (sym text) ∙ s.given.rows in
      let count : w.hub.register.rows ≡ 0 + length (rows_in w) = let same = s.fits.counted in omega (arith, same) in
      let given : flat_map rows_again (w.inputs ++ frame (header.Again (length payload)) payload ∷ []) ++ flat_map rows_out w.outputs
      ≡ rows_text 0 ((w.again ++ rows) ++ flat_map entry_of w.answered) =
      ap₂ (λ (a b : List ℕ). a ++ b) came out ∙ append-nil (flat_map rows_again w.inputs ++ payload)
      ∙ ap₂ (λ (a b : List ℕ). a ++ b) before (payload_is ∙ ap (λ (n : ℕ). rows_text n rows) count)
      ∙ sym (rows-joined 0 (rows_in w) rows) ∙ ap (λ (l : List Entry). rows_text 0 l) (sym all) in
      let taken : take w.safe w.answered ≡ w.answered =
      ap (λ (n : ℕ). take n w.answered) (safe-all w s.given (inr (inr replaying))) ∙ take-length w.answered in
      record {
        fits = subst (λ (l : List Entry). FitsIn start r l (map turn_again (w.again ++ rows) ++ flat_map turn_of w.answered)) (sym all)
            (subst (λ (l : List Turn). FitsIn start r (rows_in w ++ rows) l) (sym turns)
            (fits-again start begun w.hub.register rows r again (rows_in w) (turns_in w) s.fits));
        replies = subst (λ (l : List Exchange). All (λ (e : Exchange). HasItsReply ((w.again ++ rows) ++ flat_map entry_of w.answered) e e.how) l)
            (sym unanswered) (All-nil (λ (e : Exchange). HasItsReply ((w.again ++ rows) ++ flat_map entry_of w.answered) e e.how));
        given = record {
          rows = ap (λ (l : List ℕ). (flat_map rows_again (w.inputs ++ frame (header.Again (length payload)) payload ∷ [])
              ++ flat_map rows_out w.outputs) ++ l) r_text ∙ append-nil (flat_map rows_again (w.inputs ++ frame (header.Again (length payload)) payload ∷ [])
              ++ flat_map rows_out w.outputs) ∙ given;
          asked = λ e. r_text;
          within = s.given.within;
          telling = λ e. absurd (cc);
          settled = λ e. absurd (cc);
          kept = (
            [],
            given ∙ ap (λ (l : List Exchange). rows_text 0 ((w.again ++ rows) ++ flat_map entry_of l)) (sym taken)
                ∙ sym (append-nil (rows_text 0 ((w.again ++ rows) ++ flat_map entry_of (take w.safe w.answered)))),
          );
          replaying = λ e. record { nobody = was.nobody; unanswered = unanswered; text = r_text; out = out };
        };
        seated = λ place. subst (λ (l : List (Option ClientValue)). IsSeated (length r.desks) (get_or l place None)) (sym was.nobody) tt;
      }

  -- who is to be closed since another client is the desk is one of so many as before
  seats-after : (r : RegisterValue) (place : ℕ) (was : Option ℕ) (c : ClientValue) → IsBelow c.desk (length r.desks)
      → length w.hub.register.desks ≤ length r.desks → (k : ℕ) → IsSeated (length r.desks) (get_or (seated_after w.hub.clients place was c) k None)
  seats-after r place was c one longer =
      seated-so (IsSeated (length r.desks)) w.hub.clients place was c
      (λ x desk is. unseated-seated desk (length r.desks) x is) one
      (λ k. seated-more (get_or w.hub.clients k None) (length w.hub.register.desks) (length r.desks) longer (s.seated k))
      (λ xs all. at-set (IsSeated (length r.desks)) None xs place (Some c) one all)

  -- ---- a client becomes a desk
  on-desk : (place : ℕ) (c : ClientValue) (d : ℕ) (r : RegisterValue) (spare : Option ℕ) → IsSpare w.hub.register w.hub.clients spare
      → Joins spare w.hub.register c.name r d → Stands start (with_desk w place c d r)
  on-desk place c d r spare is_spare joins =
      let j = joined w.hub.register r c.name d (unused-spare w.hub.register w.hub.clients spare is_spare) joins in
      record {
        fits = fits-joined start w.hub.register r c.name d (rows_in w) (turns_in w)
            (unused-spare w.hub.register w.hub.clients spare is_spare) s.fits joins;
        replies = s.replies;
        given = record {
          rows = ap (λ (l : List ℕ). rows_given w ++ l) j.text ∙ s.given.rows;
          asked = λ e. absurd (cc);
          within = s.given.within;
          telling = λ e. absurd (cc);
          settled = λ e. absurd (cc);
          kept = s.given.kept;
          replaying = λ e. absurd (cc);
        };
        seated = seats-after r place None (joined_as c d (desk_at r d).next) j.within j.longer;
      }

  -- ---- a line is taken
  reply-longer : (rows more : List Entry) (e : Exchange) (how : How) → HasItsReply rows e how → HasItsReply (rows ++ more) e how
  reply-longer rows more e (repeated row) (entry, among, desk, number, says, text) =
      (entry, among-longer entry rows more among, desk, number, says, text)
  reply-longer rows more e (carried c reply) is = is
  reply-longer rows more e (passed c reply) is = is
  reply-longer rows more e otherwise is = tt

  on-line : (place : ℕ) (c c' : ClientValue) (line rest : List ℕ) (r : RegisterValue) (how : How) (text : List ℕ)
      → (s : SeatState) × Represents start s → client_at w.hub place ≡ Some c → (spare : Option ℕ)
      → (c.desk ≡ None → IsSpare w.hub.register w.hub.clients spare) → TakesLine spare w.hub.register c line rest r c' how text
      → Stands start (with_answered w place r c.desk c' (exchange_of r c c' line how text))
  on-line place c c' line rest r how text begun at spare is_spare takes =
      let e : Exchange = exchange_of r c c' line how text in
      let (became, seat) = became-taken start begun w.hub.register (rows_in w) (turns_in w) s.fits c line rest r c' how text
      (seat-of place c at) spare (λ none. unused-spare w.hub.register w.hub.clients spare (is_spare none)) takes in
      let more : List Entry = entry_of e ++ [] in
      let rows : w.again ++ flat_map entry_of (w.answered ++ e ∷ []) ≡ rows_in w ++ more =
      ap (λ (l : List Entry). w.again ++ l) (flat_map-append entry_of w.answered (e ∷ []))
      ∙ sym (append_assoc w.again (flat_map entry_of w.answered) more) in
      let turns : map turn_again w.again ++ flat_map turn_of (w.answered ++ e ∷ []) ≡ turns_in w ++ (turn_of e ++ []) =
      ap (λ (l : List Turn). map turn_again w.again ++ l) (flat_map-append turn_of w.answered (e ∷ []))
      ∙ sym (append_assoc (map turn_again w.again) (flat_map turn_of w.answered) (turn_of e ++ [])) in
      let zero_more : length (rows_in w) ≡ 0 + length (rows_in w) = omega arith in
      let taken : take w.safe (w.answered ++ e ∷ []) ≡ take w.safe w.answered = take-append-le w.safe w.answered (e ∷ []) s.given.within in
      let long : length (w.answered ++ e ∷ []) ≡ length w.answered + 1 = length-append w.answered (e ∷ []) in
      let few : w.safe ≤ length w.answered = s.given.within in
      record {
        fits = subst (λ (l : List Entry). FitsIn start r l (map turn_again w.again ++ flat_map turn_of (w.answered ++ e ∷ []))) (sym rows)
            (subst (λ (l : List Turn). FitsIn start r (rows_in w ++ more) l) (sym turns) became.fits);
        replies = subst (λ (l : List Entry). All (λ (x : Exchange). HasItsReply l x x.how) (w.answered ++ e ∷ [])) (sym rows)
            (All-push (λ (x : Exchange). HasItsReply (rows_in w ++ more) x x.how) w.answered e
            (All-weaker (λ (x : Exchange). HasItsReply (rows_in w) x x.how) (λ (x : Exchange). HasItsReply (rows_in w ++ more) x x.how)
            (λ x is. reply-longer (rows_in w) more x x.how is) w.answered s.replies)
            became.has_its);
        given = record {
          rows = ap (λ (l : List ℕ). rows_given w ++ l) (became.text ∙ ap (λ (n : ℕ). w.hub.register.text ++ rows_text n more) zero_more)
              ∙ sym (append_assoc (rows_given w) w.hub.register.text (rows_text (0 + length (rows_in w)) more))
              ∙ ap (λ (l : List ℕ). l ++ rows_text (0 + length (rows_in w)) more) s.given.rows
              ∙ sym (rows-joined 0 (rows_in w) more) ∙ ap (λ (l : List Entry). rows_text 0 l) (sym rows);
          asked = λ is. absurd (cc);
          within = omega (arith, long, few);
          telling = λ is. absurd (cc);
          settled = λ is. absurd (cc);
          kept = subst (λ (l : List Exchange). IsFrontOf (rows_text 0 (w.again ++ flat_map entry_of l)) (rows_given w)) (sym taken) s.given.kept;
          replaying = λ is. absurd (cc);
        };
        seated = seats-after r place c.desk c' seat became.longer;
      }

  -- ---- rows are given out, and kept
  on-asked : Stands start (after_output w (keep w.hub.register.text) (record w.hub {
    register = record w.hub.register { text = [] };
    phase = phase.Asked;
  }))
  on-asked =
      let out : flat_map rows_out (w.outputs ++ keep w.hub.register.text ∷ []) ≡ flat_map rows_out w.outputs ++ w.hub.register.text =
      flat_map-append rows_out w.outputs (keep w.hub.register.text ∷ [])
      ∙ ap (λ (l : List ℕ). flat_map rows_out w.outputs ++ l) (append-nil w.hub.register.text) in
      let given : flat_map rows_again w.inputs ++ flat_map rows_out (w.outputs ++ keep w.hub.register.text ∷ [])
      ≡ rows_given w ++ w.hub.register.text =
      ap (λ (l : List ℕ). flat_map rows_again w.inputs ++ l) out
      ∙ sym (append_assoc (flat_map rows_again w.inputs) (flat_map rows_out w.outputs) w.hub.register.text) in
      record {
        fits = s.fits;
        replies = s.replies;
        given = record {
          rows = append-nil (flat_map rows_again w.inputs ++ flat_map rows_out (w.outputs ++ keep w.hub.register.text ∷ [])) ∙ given
              ∙ s.given.rows;
          asked = λ e. refl;
          within = s.given.within;
          telling = λ e. absurd (cc);
          settled = λ e. absurd (cc);
          kept = let (rest, is) = s.given.kept in (
            rest ++ w.hub.register.text,
            given ∙ ap (λ (l : List ℕ). l ++ w.hub.register.text) is
                ∙ append_assoc (rows_text 0 (w.again ++ flat_map entry_of (take w.safe w.answered))) rest w.hub.register.text,
          );
          replaying = λ e. absurd (cc);
        };
        seated = s.seated;
      }

  on-kept : w.hub.phase ≡ phase.Asked
      → Stands start (record (after_frame w (frame header.Kept []) (record w.hub { phase = phase.Telling })) { safe = length w.answered })
  on-kept is_asked =
      let f : Frame = frame header.Kept [] in
      let came : flat_map rows_again (w.inputs ++ f ∷ []) ≡ flat_map rows_again w.inputs = no-rows-came w.inputs f refl in
      let same : flat_map rows_again (w.inputs ++ f ∷ []) ++ flat_map rows_out w.outputs ≡ rows_given w =
      ap (λ (l : List ℕ). l ++ flat_map rows_out w.outputs) came in
      let all : rows_given w ≡ rows_text 0 (rows_in w) =
      sym (append-nil (rows_given w)) ∙ ap (λ (l : List ℕ). rows_given w ++ l) (sym (s.given.asked is_asked)) ∙ s.given.rows in
      record {
        fits = s.fits;
        replies = s.replies;
        given = record {
          rows = ap (λ (l : List ℕ). l ++ w.hub.register.text) same ∙ s.given.rows;
          asked = λ e. absurd (cc);
          within = omega arith;
          telling = λ e. refl;
          settled = λ e. absurd (cc);
          kept = (
            [],
            same ∙ all ∙ ap (λ (l : List Exchange). rows_text 0 (w.again ++ flat_map entry_of l)) (sym (take-length w.answered))
                ∙ sym (append-nil (rows_text 0 (w.again ++ flat_map entry_of (take (length w.answered) w.answered)))),
          );
          replaying = λ e. absurd (cc);
        };
        seated = s.seated;
      }

-- ---- whatever happens
stands-on : (start : ControlValue) (w w' : World) → (s : SeatState) × Represents start s → Stands start w → Happens w w' → Stands start w'
stands-on start w _ begun s (given_again payload rows r replaying some payload_is again) =
    on-again start w s payload rows r begun replaying payload_is again
stands-on start w _ begun s (readied replaying) =
    let f : Frame = frame (header.Again 0) [] in
    still start w s w.hub.clients w.hub.opened phase.Settled (w.inputs ++ f ∷ []) (w.outputs ++ ready w.hub.register.rows ∷ []) w.came w.sent w.used
    (no-rows-came w.inputs f refl) (no-rows-out w.outputs (ready w.hub.register.rows) refl) (follows-settled w.hub.phase (inr replaying)) s.seated
stands-on start w _ begun s (places_made count frames) =
    still start w s (w.hub.clients ++ replicate count None) w.hub.opened w.hub.phase w.inputs w.outputs w.came w.sent w.used refl refl
    (follows-same w.hub.phase (frames-replayed w.hub.phase frames))
    (λ k. subst (λ (o : Option ClientValue). IsSeated (length w.hub.register.desks) o) (sym (at-nones w.hub.clients count k)) (s.seated k))
stands-on start w _ begun s (opened place name rights frames within free) =
    let f : Frame = frame (header.Open place name rights) [] in
    changed start w s place (Some (new_client w.hub.opened name rights)) (w.hub.opened + 1) w.hub.phase (w.inputs ++ f ∷ []) w.outputs w.came
    w.sent w.used (no-rows-came w.inputs f refl) refl (follows-same w.hub.phase (frames-replayed w.hub.phase frames)) tt
stands-on start w _ begun s (was_not_opened place name rights frames lacks free) =
    let f : Frame = frame (header.Open place name rights) [] in
    still start w s w.hub.clients w.hub.opened w.hub.phase (w.inputs ++ f ∷ []) (w.outputs ++ close place why.Memory ∷ []) w.came w.sent w.used
    (no-rows-came w.inputs f refl) (no-rows-out w.outputs (close place why.Memory) refl)
    (follows-same w.hub.phase (frames-replayed w.hub.phase frames)) s.seated
stands-on start w _ begun s (piece_came place c piece frames at open_still fits) =
    let f : Frame = frame (header.Came place (length piece)) piece in
    changed start w s place (Some (with_piece c piece)) w.hub.opened w.hub.phase (w.inputs ++ f ∷ []) w.outputs
    (at_one w.came c.serial (w.came c.serial ++ piece)) w.sent w.used (no-rows-came w.inputs f refl) refl
    (follows-same w.hub.phase (frames-replayed w.hub.phase frames)) (seat-of start w s place c at)
stands-on start w _ begun s (passed_over f frames nothing) =
    still start w s w.hub.clients w.hub.opened w.hub.phase (w.inputs ++ f ∷ []) w.outputs w.came w.sent w.used
    (no-rows-came w.inputs f (nothing-came w.hub f.header f.payload nothing)) refl
    (follows-same w.hub.phase (frames-replayed w.hub.phase frames)) s.seated
stands-on start w _ begun s (left place c frames at open_still) =
    let f : Frame = frame (header.Gone place) [] in
    changed start w s place (Some (closed_for c why.Gone)) w.hub.opened (after_closing w.hub.phase) (w.inputs ++ f ∷ []) w.outputs w.came w.sent w.used
    (no-rows-came w.inputs f refl) refl (follows-closing w.hub.phase frames) (seat-of start w s place c at)
stands-on start w _ begun s (too_much_came place c piece reason frames at open_still much) =
    let f : Frame = frame (header.Came place (length piece)) piece in
    changed start w s place (Some (closed_for c reason)) w.hub.opened (after_closing w.hub.phase) (w.inputs ++ f ∷ []) w.outputs w.came w.sent w.used
    (no-rows-came w.inputs f refl) refl (follows-closing w.hub.phase frames) (seat-of start w s place c at)
stands-on start w _ begun s (too_long place c lines at open_still long none) =
    changed start w s place (Some (closed_for c why.Long)) w.hub.opened (after_closing w.hub.phase) w.inputs w.outputs w.came w.sent w.used refl refl
    (follows-closing w.hub.phase (lines-frames w.hub.phase lines)) (seat-of start w s place c at)
stands-on start w _ begun s (becomes_desk place c line rest d r lines at open_still no_desk coming unended plain spare is_spare joins) =
    on-desk start w s place c d r spare is_spare joins
stands-on start w _ begun s (line_taken place c c' line rest r how text lines at open_still coming unended short spare is_spare takes) =
    on-line start w s place c c' line rest r how text begun at spare is_spare takes
stands-on start w _ begun s (asked_to_keep answering turns) = on-asked start w s
stands-on start w _ begun s (said_to_be_kept is_asked) = on-kept start w s is_asked
stands-on start w _ begun s (was_told place c at telling) =
    changed start w s place (Some (after_telling c)) w.hub.opened w.hub.phase w.inputs (w.outputs ++ send place c.used c.told ∷ []) w.came
    (at_one w.sent c.serial (w.sent c.serial ++ c.told)) (at_one w.used c.serial (w.used c.serial + c.used)) refl (no-rows-out w.outputs (send place c.used c.told) refl)
    (follows-telling w.hub.phase telling) (seat-of start w s place c at)
stands-on start w _ begun s (was_closed place c reason at closing told used telling) =
    changed start w s place None w.hub.opened w.hub.phase w.inputs (w.outputs ++ close place reason ∷ []) w.came w.sent w.used refl
    (no-rows-out w.outputs (close place reason) refl) (follows-telling w.hub.phase telling) tt
stands-on start w _ begun s (all_told telling told) =
    still start w s w.hub.clients w.hub.opened phase.Settled w.inputs w.outputs w.came w.sent w.used refl refl
    (follows-settled w.hub.phase (inl telling)) s.seated
stands-on start w _ begun s (ended untelling) =
    let f : Frame = frame header.End [] in
    still start w s w.hub.clients w.hub.opened phase.Ended (w.inputs ++ f ∷ []) w.outputs w.came w.sent w.used (no-rows-came w.inputs f refl) refl
    (follows-ended w.hub.phase) s.seated

stands-always : (start : ControlValue) (first w : World) → (s : SeatState) × Represents start s → Stands start first → Comes first w → Stands start w
stands-always start first _ begun s here = s
stands-always start first _ begun s (then w w' comes happens) = stands-on start w w' begun (stands-always start first w begun s comes) happens

-- ---- so it is in every world
pub record RegisterStands (start : ControlValue) (w : World) : Type 0 where
  pub run : IsOneRun start w.hub.register.control (turns_in w)
  pub rows : rows_given w ++ w.hub.register.text ≡ rows_text 0 (rows_in w)
  pub once : AllPairs NumbersRise (rows_in w)
  pub replies : All (λ (e : Exchange). HasItsReply (rows_in w) e e.how) w.answered
  pub owners : map (name_at w.hub.register) w.hub.register.owners ≡ flat_map seller_of (rows_in w)
  pub asked : w.hub.phase ≡ phase.Asked → w.hub.register.text ≡ []
  pub within : w.safe ≤ length w.answered
  pub settled : w.hub.phase ≡ phase.Settled → w.safe ≡ length w.answered
  pub kept : IsFrontOf (rows_text 0 (w.again ++ flat_map entry_of (take w.safe w.answered))) (rows_given w)
  pub seated : (place d : ℕ) (c : ClientValue) → client_at w.hub place ≡ Some c → c.desk ≡ Some d → d < length w.hub.register.desks
  -- more of the desks, the rows and the owners
  pub fits : FitsIn start w.hub.register (rows_in w) (turns_in w)

seat-below : (count d : ℕ) (o : Option ℕ) → o ≡ Some d → IsBelow o count → d < count
seat-below count d o is below = subst (λ (x : Option ℕ). IsBelow x count) is below

pub register-stands : (start : ControlValue) (w : World) → IsControl start → Comes (beginning start) w → RegisterStands start w
register-stands start w is comes =
    let s = stands-always start (beginning start) w (some-state start is) (stands-new start) comes in
    record {
      run = s.fits.run;
      rows = s.given.rows;
      once = s.fits.rise;
      replies = s.replies;
      owners = s.fits.fit.sellers;
      asked = s.given.asked;
      within = s.given.within;
      settled = s.given.settled;
      kept = s.given.kept;
      seated = λ place d c at is_desk. seat-below (length w.hub.register.desks) d c.desk is_desk (seat-of start w s place c at);
      fits = s.fits;
    }
