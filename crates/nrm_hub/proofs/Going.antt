-- What a call of the hub does, by what may happen in the world that the hub stands in.
use Rattle.std.proofs.Common.{ℕ, ◌≤◌, ◌≡◌, ◌≢◌, ◌∙◌, ◌+◌, ◌<◌, List, [], ◌∷◌, ◌++◌, length, Option, Some, None, refl, sym, ap, subst}
use Rattle.std.proofs.Common.{append-nil, append_assoc}
use Rattle.std.specs.Prelude.{All, ◌==◌, ◌⊎◌, true, false, replicate, take}
use Rattle.nrm_frames.specs.Frames.{Frame}
use Rattle.nrm_frames.specs.Outgoing.{Output, close, keep, ready, send}
use Rattle.nrm_frames.specs.declared.header.Header.TheVariants as header
use Rattle.nrm_frames.specs.declared.rights.Rights.{Rights}
use Rattle.nrm_frames.specs.declared.why.Why.{Why}
use Rattle.nrm_frames.specs.declared.why.Why.TheVariants as why
use Rattle.nrm_hub.specs.Asked.{asked_in}
use Rattle.nrm_hub.specs.Clients.{ClientValue, after_telling, joined_as, new_client, with_piece}
use Rattle.nrm_hub.specs.Goes.{Goes, GoesTo}
use Rattle.nrm_hub.specs.Hub.{HubValue, alone, client_at, seated_after, takes_frames, takes_lines, with_client, with_closed}
use Rattle.nrm_hub.specs.Lines.{How}
use Rattle.nrm_hub.specs.Register.{Joins, RegisterValue, desk_at}
use Rattle.nrm_hub.specs.Rows.{Entry, rows_text}
use Rattle.nrm_hub.specs.Spare.{IsSpare}
use Rattle.nrm_hub.specs.Taking.{TakesLine}
use Rattle.nrm_hub.specs.Waiting.{HadTurn, IsTold, OfEach}
use Rattle.nrm_hub.specs.World.{Comes, GivesAgain, Happens, IsNoGreeting, IsNothing, IsTooMuch, World, after_frame, after_output, at_one, exchange_of, frame}
use Rattle.nrm_hub.specs.World.{with_answered, with_desk, with_opened, with_piece_of}
use Rattle.nrm_hub.specs.World.{all_told, asked_to_keep, becomes_desk, ended, here, left, line_taken, opened, passed_over, piece_came, places_made, readied}
use Rattle.nrm_hub.specs.World.{rows_again, said_to_be_kept, then, too_long, too_much_came, was_closed, was_not_opened, was_told}
use Rattle.nrm_hub.specs.declared.limits.TheConstants.{MOST_LINE, MOST_OPENED, MOST_WAITING}
use Rattle.nrm_hub.specs.declared.phase.Phase.TheVariants as phase

-- ---- one after another
comes-on : (a b c : World) → Comes a b → Comes b c → Comes a c
comes-on a b _ first here = first
comes-on a b _ first (then w w' rest step) = then w w' (comes-on a b w first rest) step

pub goes-nothing : (h : HubValue) → Goes h h [] []
goes-nothing h w stands = record {
  world = w;
  comes = here;
  stands = stands;
  came = sym (append-nil w.inputs);
  written = sym (append-nil w.outputs);
}

pub goes-then : (a b c : HubValue) (i i' : List Frame) (o o' : List Output) → Goes a b i o → Goes b c i' o' → Goes a c (i ++ i') (o ++ o')
goes-then a b c i i' o o' first rest w stands =
    let one : GoesTo w b i o = first w stands in
    let two : GoesTo one.world c i' o' = rest one.world one.stands in
    record {
      world = two.world;
      comes = comes-on w one.world two.world one.comes two.comes;
      stands = two.stands;
      came = two.came ∙ ap (λ (fs : List Frame). fs ++ i') one.came ∙ append_assoc w.inputs i i';
      written = two.written ∙ ap (λ (fs : List Output). fs ++ o') one.written ∙ append_assoc w.outputs o o';
    }

-- where no frame comes or is written
pub goes-on : (a b c : HubValue) (i : List Frame) (o : List Output) → Goes a b i o → Goes b c [] [] → Goes a c i o
goes-on a b c i o first rest =
    subst (λ (fs : List Frame). Goes a c fs o) (append-nil i)
    (subst (λ (fs : List Output). Goes a c (i ++ []) fs) (append-nil o) (goes-then a b c i [] o [] first rest))

-- the hubs by other terms
pub goes-same : (a a' b b' : HubValue) (i : List Frame) (o : List Output) → a ≡ a' → b ≡ b' → Goes a b i o → Goes a' b' i o
goes-same a a' b b' i o one other goes =
    subst (λ (h : HubValue). Goes h b' i o) one (subst (λ (h : HubValue). Goes a h i o) other goes)

-- ---- one step
-- what a hub does in each world that it stands in, by what holds of it
goes-at : (P : HubValue → Type 0) (f : HubValue → HubValue) (i : List Frame) (o : HubValue → List Output) (h : HubValue) → P h
    → ((w : World) → P w.hub → GoesTo w (f w.hub) i (o w.hub)) → Goes h (f h) i (o h)
goes-at P f i o h holds step w stands =
    subst (λ (h' : HubValue). GoesTo w (f h') i (o h')) stands (step w (subst P (sym stands) holds))

went : (w w' : World) (i : List Frame) (o : List Output) → Happens w w' → w'.inputs ≡ w.inputs ++ i → w'.outputs ≡ w.outputs ++ o
    → GoesTo w w'.hub i o
went w w' i o happens came written = record {
  world = w';
  comes = then w w' here happens;
  stands = refl;
  came = came;
  written = written;
}

pub goes-again : (h : HubValue) (payload : List ℕ) (rows : List Entry) (r : RegisterValue) → h.phase ≡ phase.Replaying → payload ≢ []
    → payload ≡ rows_text h.register.rows rows → GivesAgain h.register rows r
    → Goes h (record h { register = r }) (frame (header.Again (length payload)) payload ∷ []) []
goes-again h payload rows r replaying some is again =
    goes-at
    (λ h. (h.phase ≡ phase.Replaying) × (payload ≡ rows_text h.register.rows rows) × GivesAgain h.register rows r)
    (λ h. record h { register = r }) (frame (header.Again (length payload)) payload ∷ []) (λ _. []) h (replaying, is, again)
    (λ w p. went w (record (after_frame w (frame (header.Again (length payload)) payload) (record w.hub { register = r })) {
      again = w.again ++ rows;
    }) (frame (header.Again (length payload)) payload ∷ []) [] (rows_again payload rows r p.0 some p.1 p.2) refl (sym (append-nil w.outputs)))

pub goes-ready : (h : HubValue) → h.phase ≡ phase.Replaying
    → Goes h (record h { phase = phase.Settled }) (frame (header.Again 0) [] ∷ []) (ready h.register.rows ∷ [])
goes-ready h replaying =
    goes-at (λ h. h.phase ≡ phase.Replaying) (λ h. record h { phase = phase.Settled }) (frame (header.Again 0) [] ∷ [])
    (λ h. ready h.register.rows ∷ []) h replaying
    (λ w p. went w
    (after_output (after_frame w (frame (header.Again 0) []) w.hub) (ready w.hub.register.rows) (record w.hub { phase = phase.Settled }))
    (frame (header.Again 0) [] ∷ []) (ready w.hub.register.rows ∷ []) (readied p) refl refl)

pub goes-places : (h : HubValue) (count : ℕ) → takes_frames h.phase ≡ true → Goes h (record h { clients = h.clients ++ replicate count None }) [] []
goes-places h count open_still =
    goes-at (λ h. takes_frames h.phase ≡ true) (λ h. record h { clients = h.clients ++ replicate count None }) [] (λ _. []) h open_still
    (λ w p. went w (record w { hub = record w.hub { clients = w.hub.clients ++ replicate count None } }) [] [] (places_made count p) (sym (append-nil w.inputs))
    (sym (append-nil w.outputs)))

pub goes-opened : (h : HubValue) (place : ℕ) (name : List ℕ) (rights : Rights) → takes_frames h.phase ≡ true → place < length h.clients
    → client_at h place ≡ None
    → Goes h (record (with_client h place (Some (new_client h.opened name rights))) { opened = h.opened + 1 })
    (frame (header.Open place name rights) [] ∷ []) []
goes-opened h place name rights open_still within free =
    goes-at (λ h. (takes_frames h.phase ≡ true) × (place < length h.clients) × (client_at h place ≡ None))
    (λ h. record (with_client h place (Some (new_client h.opened name rights))) { opened = h.opened + 1 })
    (frame (header.Open place name rights) [] ∷ []) (λ _. []) h (open_still, within, free)
    (λ w p. went w (with_opened w place name rights) (frame (header.Open place name rights) [] ∷ []) []
    (opened place name rights p.0 p.1 p.2) refl (sym (append-nil w.outputs)))

pub goes-unopened : (h : HubValue) (place : ℕ) (name : List ℕ) (rights : Rights) → takes_frames h.phase ≡ true
    → (length h.clients ≤ place) ⊎ (MOST_OPENED ≤ h.opened) → client_at h place ≡ None
    → Goes h h (frame (header.Open place name rights) [] ∷ []) (close place why.Memory ∷ [])
goes-unopened h place name rights open_still lacks free =
    goes-at (λ h. (takes_frames h.phase ≡ true) × ((length h.clients ≤ place) ⊎ (MOST_OPENED ≤ h.opened)) × (client_at h place ≡ None)) (λ h. h)
    (frame (header.Open place name rights) [] ∷ []) (λ _. close place why.Memory ∷ []) h (open_still, lacks, free)
    (λ w p. went w (after_output (after_frame w (frame (header.Open place name rights) []) w.hub) (close place why.Memory) w.hub)
    (frame (header.Open place name rights) [] ∷ []) (close place why.Memory ∷ []) (was_not_opened place name rights p.0 p.1 p.2) refl refl)

module _ (h : HubValue) (place : ℕ) (c : ClientValue) (open_still : takes_frames h.phase ≡ true) (there : client_at h place ≡ Some c)
    (whole : c.closing ≡ None) where
  pub goes-piece : (piece : List ℕ) → length c.coming + length piece ≤ MOST_WAITING
      → Goes h (with_client h place (Some (with_piece c piece))) (frame (header.Came place (length piece)) piece ∷ []) []
  goes-piece piece fits =
      goes-at (λ h. (takes_frames h.phase ≡ true) × (client_at h place ≡ Some c)) (λ h. with_client h place (Some (with_piece c piece)))
      (frame (header.Came place (length piece)) piece ∷ []) (λ _. []) h (open_still, there)
      (λ w p. went w (with_piece_of w place c piece) (frame (header.Came place (length piece)) piece ∷ []) []
      (piece_came place c piece p.0 p.1 whole fits) refl (sym (append-nil w.outputs)))

  pub goes-too_much : (piece : List ℕ) (reason : Why) → IsTooMuch c piece reason
      → Goes h (with_closed h place c reason) (frame (header.Came place (length piece)) piece ∷ []) []
  goes-too_much piece reason much =
      goes-at (λ h. (takes_frames h.phase ≡ true) × (client_at h place ≡ Some c)) (λ h. with_closed h place c reason)
      (frame (header.Came place (length piece)) piece ∷ []) (λ _. []) h (open_still, there)
      (λ w p. went w (after_frame w (frame (header.Came place (length piece)) piece) (with_closed w.hub place c reason))
      (frame (header.Came place (length piece)) piece ∷ []) [] (too_much_came place c piece reason p.0 p.1 whole much) refl
      (sym (append-nil w.outputs)))

  pub goes-left : Goes h (with_closed h place c why.Gone) (frame (header.Gone place) [] ∷ []) []
  goes-left =
      goes-at (λ h. (takes_frames h.phase ≡ true) × (client_at h place ≡ Some c)) (λ h. with_closed h place c why.Gone)
      (frame (header.Gone place) [] ∷ []) (λ _. []) h (open_still, there)
      (λ w p. went w (after_frame w (frame (header.Gone place) []) (with_closed w.hub place c why.Gone))
      (frame (header.Gone place) [] ∷ []) [] (left place c p.0 p.1 whole) refl (sym (append-nil w.outputs)))

pub goes-past : (h : HubValue) (f : Frame) → takes_frames h.phase ≡ true → IsNothing h f.header → Goes h h (f ∷ []) []
goes-past h f open_still is =
    goes-at (λ h. (takes_frames h.phase ≡ true) × IsNothing h f.header) (λ h. h) (f ∷ []) (λ _. []) h (open_still, is)
    (λ w p. went w (after_frame w f w.hub) (f ∷ []) [] (passed_over f p.0 p.1) refl (sym (append-nil w.outputs)))

module _ (h : HubValue) (place : ℕ) (c : ClientValue) (takes_still : takes_lines h.phase ≡ true) (there : client_at h place ≡ Some c)
    (whole : c.closing ≡ None) where
  pub goes-long : MOST_LINE ≤ length c.coming → All (λ byte. (byte == 10) ≡ false) (take MOST_LINE c.coming)
      → Goes h (with_closed h place c why.Long) [] []
  goes-long long none =
      goes-at (λ h. (takes_lines h.phase ≡ true) × (client_at h place ≡ Some c)) (λ h. with_closed h place c why.Long)
      [] (λ _. []) h (takes_still, there)
      (λ w p. went w (record w { hub = with_closed w.hub place c why.Long }) [] []
      (too_long place c p.0 p.1 whole long none) (sym (append-nil w.inputs)) (sym (append-nil w.outputs)))

  -- the hub once a client is a desk
  abbrev pub desked : HubValue → ℕ → RegisterValue → HubValue
  desked h d r = record h {
    clients = alone h.clients place (joined_as c d (desk_at r d).next) (Some d);
    register = r;
    phase = phase.Answering;
  }

  pub goes-desk : (line rest : List ℕ) (d : ℕ) (r : RegisterValue) → c.desk ≡ None → c.coming ≡ line ++ 10 ∷ rest
      → All (λ byte. (byte == 10) ≡ false) line → IsNoGreeting (asked_in line) → (spare : Option ℕ) → IsSpare h.register h.clients spare
      → Joins spare h.register c.name r d → Goes h (desked h d r) [] []
  goes-desk line rest d r none is unended plain spare is_spare joins =
      goes-at (λ h. (takes_lines h.phase ≡ true) × (client_at h place ≡ Some c) × IsSpare h.register h.clients spare
      × Joins spare h.register c.name r d) (λ h. desked h d r) [] (λ _. []) h (takes_still, there, is_spare, joins)
      (λ w p. went w (with_desk w place c d r) [] []
      (becomes_desk place c line rest d r p.0 p.1 whole none is unended plain spare p.2 p.3) (sym (append-nil w.inputs))
      (sym (append-nil w.outputs)))

  pub goes-line : (c' : ClientValue) (line rest : List ℕ) (r : RegisterValue) (how : How) (text : List ℕ) → c.coming ≡ line ++ 10 ∷ rest
      → All (λ byte. (byte == 10) ≡ false) line → length line < MOST_LINE → (spare : Option ℕ)
      → (c.desk ≡ None → IsSpare h.register h.clients spare) → TakesLine spare h.register c line rest r c' how text
      → Goes h (record h { clients = seated_after h.clients place c.desk c'; register = r; phase = phase.Answering }) [] []
  goes-line c' line rest r how text is none short spare is_spare takes =
      goes-at (λ h. (takes_lines h.phase ≡ true) × (client_at h place ≡ Some c) × (c.desk ≡ None → IsSpare h.register h.clients spare)
      × TakesLine spare h.register c line rest r c' how text)
      (λ h. record h { clients = seated_after h.clients place c.desk c'; register = r; phase = phase.Answering }) [] (λ _. []) h
      (takes_still, there, is_spare, takes)
      (λ w p. went w (with_answered w place r c.desk c' (exchange_of r c c' line how text)) [] []
      (line_taken place c c' line rest r how text p.0 p.1 whole is none short spare p.2 p.3) (sym (append-nil w.inputs))
      (sym (append-nil w.outputs)))

pub goes-asked : (h : HubValue) → h.phase ≡ phase.Answering → OfEach HadTurn h
    → Goes h (record h { register = record h.register { text = [] }; phase = phase.Asked }) [] (keep h.register.text ∷ [])
goes-asked h answering turns =
    goes-at (λ h. (h.phase ≡ phase.Answering) × OfEach HadTurn h)
    (λ h. record h { register = record h.register { text = [] }; phase = phase.Asked }) [] (λ h. keep h.register.text ∷ []) h (answering, turns)
    (λ w p. went w
    (after_output w (keep w.hub.register.text) (record w.hub { register = record w.hub.register { text = [] }; phase = phase.Asked })) []
    (keep w.hub.register.text ∷ []) (asked_to_keep p.0 p.1) (sym (append-nil w.inputs)) refl)

pub goes-kept : (h : HubValue) → h.phase ≡ phase.Asked → Goes h (record h { phase = phase.Telling }) (frame header.Kept [] ∷ []) []
goes-kept h is =
    goes-at (λ h. h.phase ≡ phase.Asked) (λ h. record h { phase = phase.Telling }) (frame header.Kept [] ∷ []) (λ _. []) h is
    (λ w p. went w (record (after_frame w (frame header.Kept []) (record w.hub { phase = phase.Telling })) { safe = length w.answered })
    (frame header.Kept [] ∷ []) [] (said_to_be_kept p) refl (sym (append-nil w.outputs)))

pub goes-told : (h : HubValue) (place : ℕ) (c : ClientValue) → client_at h place ≡ Some c → h.phase ≡ phase.Telling
    → Goes h (with_client h place (Some (after_telling c))) [] (send place c.used c.told ∷ [])
goes-told h place c there telling =
    goes-at (λ h. (client_at h place ≡ Some c) × (h.phase ≡ phase.Telling)) (λ h. with_client h place (Some (after_telling c))) []
    (λ _. send place c.used c.told ∷ []) h (there, telling)
    (λ w p. went w (record (after_output w (send place c.used c.told) (with_client w.hub place (Some (after_telling c)))) {
      sent = at_one w.sent c.serial (w.sent c.serial ++ c.told);
      used = at_one w.used c.serial (w.used c.serial + c.used);
    }) [] (send place c.used c.told ∷ []) (was_told place c p.0 p.1) (sym (append-nil w.inputs)) refl)

pub goes-closed : (h : HubValue) (place : ℕ) (c : ClientValue) (reason : Why) → client_at h place ≡ Some c → c.closing ≡ Some reason
    → c.told ≡ [] → c.used ≡ 0 → h.phase ≡ phase.Telling → Goes h (with_client h place None) [] (close place reason ∷ [])
goes-closed h place c reason there is told used telling =
    goes-at (λ h. (client_at h place ≡ Some c) × (h.phase ≡ phase.Telling)) (λ h. with_client h place None) []
    (λ _. close place reason ∷ []) h (there, telling)
    (λ w p. went w (after_output w (close place reason) (with_client w.hub place None)) [] (close place reason ∷ [])
    (was_closed place c reason p.0 is told used p.1) (sym (append-nil w.inputs)) refl)

pub goes-settled : (h : HubValue) → h.phase ≡ phase.Telling → OfEach IsTold h → Goes h (record h { phase = phase.Settled }) [] []
goes-settled h telling told =
    goes-at (λ h. (h.phase ≡ phase.Telling) × OfEach IsTold h) (λ h. record h { phase = phase.Settled }) [] (λ _. []) h (telling, told)
    (λ w p. went w (record w { hub = record w.hub { phase = phase.Settled } }) [] [] (all_told p.0 p.1) (sym (append-nil w.inputs))
    (sym (append-nil w.outputs)))

pub goes-ended : (h : HubValue) → h.phase ≢ phase.Telling → Goes h (record h { phase = phase.Ended }) (frame header.End [] ∷ []) []
goes-ended h untelling =
    goes-at (λ h. h.phase ≢ phase.Telling) (λ h. record h { phase = phase.Ended }) (frame header.End [] ∷ []) (λ _. []) h untelling
    (λ w p. went w (after_frame w (frame header.End []) (record w.hub { phase = phase.Ended })) (frame header.End [] ∷ []) [] (ended p) refl
    (sym (append-nil w.outputs)))
