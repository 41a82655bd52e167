-- What a register has after a line of a client.
use Rattle.std.proofs.Common.{ℕ, ◌≡◌, ◌∙◌, ◌+◌, ◌<◌, ◌≤◌, true, List, [], ◌∷◌, ◌++◌, length, get_or, Option, Some, None, refl, sym, ap, subst, arith}
use Rattle.std.proofs.Common.{append-nil, length-set}
use Rattle.std.specs.Prelude.{⊤, option_map}
use Rattle.std.proofs.lemmas.List.{get_or-set_same}
use Rattle.nrm_control.specs.State.{SeatState}
use Rattle.nrm_control.specs.Standing.{ControlValue, Represents}
use Rattle.nrm_frames.specs.declared.rights.Rights.{Rights}
use Rattle.nrm_stream.specs.declared.command.Command.{Command}
use Rattle.nrm_session.specs.Answering.{reply_in}
use Rattle.nrm_session.specs.Replies.{Reply, memory, text_of}
use Rattle.nrm_session.specs.declared.reply.Reply.{Reply as Answered}
use Rattle.nrm_hub.specs.Asked.{asked_in, is_change}
use Rattle.nrm_hub.specs.Clients.{ClientValue, Hears, after_line, cut, joined_as, whole}
use Rattle.nrm_hub.specs.Hub.{unseated}
use Rattle.nrm_hub.specs.Desks.{HasItsReply, Turn, entry_of, turn_of}
use Rattle.nrm_hub.specs.Lines.{Answers, How, asks, carried, greets_late, is_carried, is_denied, lacks, looks, may_not_ask, otherwise, passed, repeated}
use Rattle.nrm_hub.specs.Lines.{at_line, denied_line, is_same, repeats, row_under, runs_out, told_text}
use Rattle.nrm_hub.specs.Register.{Carries, DeskValue, Passes, RegisterValue, desk_at, name_at, new_desk, with_row}
use Rattle.nrm_hub.specs.Rows.{Entry, row_text, rows_text}
use Rattle.nrm_hub.specs.Taking.{TakesLine, answers, greets, lacks_memory, may_not_greet, refuses, too_many}
use Rattle.nrm_hub.specs.World.{Exchange, desk_name, exchange_of}
use Rattle.nrm_hub.specs.declared.asked.Asked.TheVariants as asked
use Rattle.nrm_hub.specs.declared.row.Row.{Row}
use Rattle.nrm_hub.proofs.RegisterLists.{among-longer, row-found, same-command}
use Rattle.nrm_hub.proofs.Unseated.{unseated-desk}
use Rattle.nrm_hub.proofs.RegisterFits.{IsUnused, FitsIn, IsOfRows, fits-carried, fits-joined, fits-passed, joined}

-- ---- seats
-- the number of a desk, if there is one, is below this one
abbrev pub IsBelow : Option ℕ → ℕ → Type 0
IsBelow None count = ⊤
IsBelow (Some desk) count = desk < count

-- the desk of a client, if somebody is there, is one of so many
abbrev pub IsSeated : ℕ → Option ClientValue → Type 0
IsSeated count None = ⊤
IsSeated count (Some c) = IsBelow c.desk count

pub below-more : (o : Option ℕ) (n m : ℕ) → n ≤ m → IsBelow o n → IsBelow o m
below-more None n m more is = tt
below-more (Some d) n m more is = omega (arith, more, is)

pub seated-more : (c : Option ClientValue) (n m : ℕ) → n ≤ m → IsSeated n c → IsSeated m c
seated-more None n m more is = tt
seated-more (Some c) n m more is = below-more c.desk n m more is

-- who is to be closed since another client is the desk has the desk that it had
pub unseated-seated : (desk count : ℕ) (o : Option ClientValue) → IsSeated count o → IsSeated count (option_map (unseated desk) o)
unseated-seated desk count None is = tt
unseated-seated desk count (Some c) is = subst (λ (o : Option ℕ). IsBelow o count) (sym (unseated-desk desk c)) is

-- a client that hears a text is the desk that it was
pub hears-desk : (old new : ClientValue) (text : List ℕ) → Hears old text new → new.desk ≡ old.desk
hears-desk old _ text whole = refl
hears-desk old _ text (cut count short) = refl

-- ---- what became of a line, as it is in common
pub record Became (start : ControlValue) (r r' : RegisterValue) (rows : List Entry) (turns : List Turn) (e : Exchange) : Type 0 where
  pub fits : FitsIn start r' (rows ++ (entry_of e ++ [])) (turns ++ (turn_of e ++ []))
  pub has_its : HasItsReply (rows ++ (entry_of e ++ [])) e e.how
  pub text : r'.text ≡ r.text ++ rows_text (length rows) (entry_of e ++ [])
  pub longer : length r.desks ≤ length r'.desks

module _ (start : ControlValue) (begun : (s : SeatState) × Represents start s) (r : RegisterValue) (rows : List Entry) (turns : List Turn)
    (f : FitsIn start r rows turns) where
  abbrev said : ℕ → List ℕ → ℕ → List ℕ → How → List ℕ → Exchange
  said client desk n line how text = record { client = client; desk = desk; sequence = n; line = line; how = how; text = text }

  -- a line that left all as it was
  pub became-otherwise : (r' : RegisterValue) (client n : ℕ) (desk line text : List ℕ) → FitsIn start r' rows turns → r'.text ≡ r.text
      → length r.desks ≤ length r'.desks → Became start r r' rows turns (said client desk n line otherwise text)
  became-otherwise r' client n desk line text fits same longer = record {
    fits = subst (λ (l : List Entry). FitsIn start r' l (turns ++ [])) (sym (append-nil rows))
        (subst (λ (l : List Turn). FitsIn start r' rows l) (sym (append-nil turns)) fits);
    has_its = tt;
    text = same ∙ sym (append-nil r.text);
    longer = longer;
  }

  became-passed : (r' : RegisterValue) (client n : ℕ) (desk line : List ℕ) (c : Command) (reply : Reply) → asked_in line ≡ asked.Says c
      → Passes r r' c reply → Became start r r' rows turns (said client desk n line (passed c reply) (told_text reply))
  became-passed r' client n desk line c reply is passes =
      let desks : length r'.desks ≡ length r.desks = ap (λ (x : RegisterValue). length x.desks) passes.rest in
      record {
        fits = subst (λ (l : List Entry). FitsIn start r' l (turns ++ (c, reply) ∷ [])) (sym (append-nil rows))
            (fits-passed start r r' c reply rows turns f passes);
        has_its = (is, refl);
        text = ap (λ (x : RegisterValue). x.text) passes.rest ∙ sym (append-nil r.text);
        longer = omega (arith, desks);
      }

  became-carried : (r' : RegisterValue) (client d n : ℕ) (line : List ℕ) (c : Command) (a : Answered) → d < length r.desks
      → asked_in line ≡ asked.Says c → is_change c ≡ true → (desk_at r d).next ≤ n → Carries r r' d n c a
      → Became start r r' rows turns (said client (name_at r d) n line (carried c (reply_in r'.control a)) (text_of (reply_in r'.control a)))
  became-carried r' client d n line c a within is changes above carries =
      let row : Row = record { sequence = n; command = c; reply = a } in
      let desks : length r'.desks ≡ length r.desks =
      ap (λ (l : List DeskValue). length l) carries.desks ∙ length-set r.desks d (with_row (desk_at r d) row) in
      let text_at : ℕ → List ℕ = λ k. row_text (k + 1) (name_at r d) n c (reply_in r'.control a) in
      record {
        fits = fits-carried start begun r r' d n c a rows turns f within changes above carries;
        has_its = (is, refl);
        text = carries.text ∙ ap (λ (t : List ℕ). r.text ++ t) (ap text_at f.counted ∙ sym (append-nil (text_at (length rows))));
        longer = omega (arith, desks);
      }

  -- a line whose row is there
  became-repeated : (client d n : ℕ) (line : List ℕ) (c : Command) (row : Row) → asked_in line ≡ asked.Says c
      → row_under (desk_at r d).held n ≡ Some row → is_same row.command c ≡ true
      → Became start r r rows turns (said client (name_at r d) n line (repeated row) (text_of (reply_in r.control row.reply)))
  became-repeated client d n line c row is under same =
      let (of_rows, number) = row-found (IsOfRows r.control (name_at r d) rows) (desk_at r d).held n row (f.fit.held d) under in
      let says : asked_in line ≡ asked.Says of_rows.entry.command =
      is ∙ ap (λ (k : Command). asked.Says k) (sym (of_rows.command ∙ same-command row.command c same)) in
      record {
        fits = subst (λ (l : List Entry). FitsIn start r l (turns ++ [])) (sym (append-nil rows))
            (subst (λ (l : List Turn). FitsIn start r rows l) (sym (append-nil turns)) f);
        has_its = (
          of_rows.entry,
          among-longer of_rows.entry rows [] of_rows.among,
          of_rows.desk,
          of_rows.sequence ∙ number,
          says,
          ap (λ (reply : Reply). text_of reply) (sym of_rows.reply),
        );
        text = sym (append-nil r.text);
        longer = omega arith;
      }

  became-answered : (client d n : ℕ) (rights : Rights) (line : List ℕ) (r' : RegisterValue) (how : How) (text : List ℕ)
      → d < length r.desks → Answers r rights d n line r' how text → Became start r r' rows turns (said client (name_at r d) n line how text)
  became-answered client d n rights line _ _ _ within (greets_late name number is) =
      became-otherwise r client n (name_at r d) line _ f refl (omega arith)
  became-answered client d n rights line _ _ _ within (asks name is may) =
      became-otherwise r client n (name_at r d) line _ f refl (omega arith)
  became-answered client d n rights line _ _ _ within (may_not_ask name is may) =
      became-otherwise r client n (name_at r d) line _ f refl (omega arith)
  became-answered client d n rights line _ _ _ within (is_denied c is may) =
      became-otherwise r client n (name_at r d) line _ f refl (omega arith)
  became-answered client d n rights line _ _ _ within (is_carried c r' a is may changes above few carries) =
      became-carried r' client d n line c a within is changes above carries
  became-answered client d n rights line _ _ _ within (runs_out c r' is may changes above few passes) =
      became-passed r' client n (name_at r d) line c memory is passes
  became-answered client d n rights line _ _ _ within (lacks c is may changes above few) =
      became-otherwise r client n (name_at r d) line _ f refl (omega arith)
  became-answered client d n rights line _ _ _ within (looks c r' reply is may changes passes) =
      became-passed r' client n (name_at r d) line c reply is passes
  became-answered client d n rights line _ _ _ within (repeats c row is may changes used under same) =
      became-repeated client d n line c row is under same

  -- the desk keeps its name
  name-kept : (d n : ℕ) (rights : Rights) (line : List ℕ) (r' : RegisterValue) (how : How) (text : List ℕ)
      → d < length r.desks → Answers r rights d n line r' how text → name_at r' d ≡ name_at r d
  name-kept d n rights line _ _ _ within (greets_late name number is) = refl
  name-kept d n rights line _ _ _ within (asks name is may) = refl
  name-kept d n rights line _ _ _ within (may_not_ask name is may) = refl
  name-kept d n rights line _ _ _ within (is_denied c is may) = refl
  name-kept d n rights line _ _ _ within (is_carried c r' a is may changes above few carries) =
      let row : Row = record { sequence = n; command = c; reply = a } in
      ap (λ (l : List DeskValue). (get_or l d (new_desk [])).name) carries.desks
      ∙ ap (λ (desk : DeskValue). desk.name) (get_or-set_same r.desks d (with_row (desk_at r d) row) (new_desk []) within)
  name-kept d n rights line _ _ _ within (runs_out c r' is may changes above few passes) =
      ap (λ (x : RegisterValue). name_at x d) passes.rest
  name-kept d n rights line _ _ _ within (lacks c is may changes above few) = refl
  name-kept d n rights line _ _ _ within (looks c r' reply is may changes passes) =
      ap (λ (x : RegisterValue). name_at x d) passes.rest
  name-kept d n rights line _ _ _ within (repeats c row is may changes used under same) = refl

  -- a line was taken
  pub became-taken : (c : ClientValue) (line rest : List ℕ) (r' : RegisterValue) (c' : ClientValue) (how : How) (text : List ℕ)
      → IsBelow c.desk (length r.desks) → (spare : Option ℕ) → (c.desk ≡ None → (e : ℕ) → spare ≡ Some e → IsUnused r e)
      → TakesLine spare r c line rest r' c' how text
      → Became start r r' rows turns (exchange_of r' c c' line how text) × IsBelow c'.desk (length r'.desks)
  became-taken c line rest _ _ _ _ seat spare unused (greets name number r' d n c' no_desk is may joins n_is hears) =
      let j = joined r r' name d (unused no_desk) joins in
      let same : c'.desk ≡ Some d = hears-desk (joined_as (after_line c line rest) d n) c' (at_line n) hears in (
        became-otherwise r' c.serial c.number (desk_name r' c'.desk) line (at_line n) (fits-joined start r r' name d rows turns (unused no_desk) f joins)
            j.text j.longer,
        subst (λ (o : Option ℕ). IsBelow o (length r'.desks)) (sym same) j.within,
      )
  became-taken c line rest _ _ _ _ seat spare unused (may_not_greet name number c' no_desk is may hears) = (
    became-otherwise r c.serial c.number (desk_name r c'.desk) line denied_line f refl (omega arith),
    subst (λ (o : Option ℕ). IsBelow o (length r.desks)) (sym (hears-desk (after_line c line rest) c' denied_line hears)) seat,
  )
  became-taken c line rest _ _ _ _ seat spare unused (lacks_memory c' no_desk new hears) = (
    became-otherwise r c.serial c.number (desk_name r c'.desk) line (text_of memory) f refl (omega arith),
    subst (λ (o : Option ℕ). IsBelow o (length r.desks)) (sym (hears-desk (after_line c line rest) c' (text_of memory) hears)) seat,
  )
  became-taken c line rest _ _ _ _ seat spare unused (too_many no_desk new many none) =
      (became-otherwise r c.serial c.number (desk_name r c.desk) line [] f refl (omega arith), seat)
  became-taken c line rest _ _ _ _ seat spare unused (answers d r' c' how text is_desk told hears) =
      let kept : c'.desk ≡ c.desk = hears-desk (record (after_line c line rest) { number = c.number + 1 }) c' text hears in
      let same : c'.desk ≡ Some d = kept ∙ is_desk in
      let within : d < length r.desks = subst (λ (o : Option ℕ). IsBelow o (length r.desks)) is_desk seat in
      let became = became-answered c.serial d c.number c.rights line r' how text within told in
      let name : desk_name r' c'.desk ≡ name_at r d =
      ap (λ (o : Option ℕ). desk_name r' o) same ∙ name-kept d c.number c.rights line r' how text within told in (
        subst (λ (desk : List ℕ). Became start r r' rows turns (said c.serial desk c.number line how text)) (sym name) became,
        subst (λ (o : Option ℕ). IsBelow o (length r'.desks)) (sym kept) (below-more c.desk (length r.desks) (length r'.desks) became.longer seat),
      )
  became-taken c line rest _ _ _ _ seat spare unused (refuses d reason is_desk refused) =
      (became-otherwise r c.serial c.number (desk_name r c.desk) line [] f refl (omega arith), seat)
