-- One line of a client that is a desk, answered.
use Rattle.std.proofs.Common.{ℕ, ◌≡◌, ◌⊎◌, inl, inr, ◌∙◌, ◌+◌, ◌<◌, ◌≤◌, Bool, true, false, List, [], ◌∷◌, ◌++◌, length, take, Some, Result, Ok, Err, refl, sym, ap, subst, arith, append-nil, append_assoc, length-append}
use Rattle.std.proofs.Math.Seq.{take-append-add}
use Rattle.std.proofs.lemmas.List.{take-append-le}
use Rattle.std.specs.Prelude.{OnErr, OnOk}
use Rattle.std.specs.Result.{is_err}
use Rattle.std.specs.Io.KnownBytes.{Appends}
use Rattle.nrm_edge.specs.Pieces.{AppendsFront}
use Rattle.nrm_control.specs.Standing.{ControlValue}
use Rattle.nrm_stream.specs.declared.command.Command.{Command}
use Rattle.nrm_session.specs.Answering.{reply_in}
use Rattle.nrm_session.specs.Replies.{Reply, leg_told, memory, plan_told, text_of}
use Rattle.nrm_session.specs.declared.reply.Reply.{Reply as Answered}
use Rattle.nrm_session.specs.declared.reply.Reply.TheVariants as answered
use Rattle.nrm_frames.specs.declared.rights.Rights.{Rights}
use Rattle.nrm_hub.specs.Inner.Answered.{CarriesOut, Hears, IsAnswered, ran_out, carried as with_its_row}
use Rattle.nrm_hub.specs.Asked.{allows, asked_in, is_change}
use Rattle.nrm_hub.specs.Lines.{Answers, How, carried, is_carried, passed, runs_out, told_text}
use Rattle.nrm_hub.specs.Register.{RegisterValue, desk_at, is_of_row}
use Rattle.nrm_hub.specs.declared.asked.Asked.TheVariants as asked
use Rattle.nrm_hub.specs.declared.limits.TheConstants.{MOST_ROWS}
use Rattle.nrm_hub.specs.declared.line.Taken.{Taken}
use Rattle.nrm_hub.specs.declared.line.Taken.TheVariants as taken

-- ---- what waits

-- a front of a text is one of a longer text
pub cut-longer : (old new text more : List ℕ) (count : ℕ) → count < length text → new ≡ old ++ take count text
    → Hears old new (text ++ more) taken.Cut
cut-longer old new text more count short is = (
  count,
  omega (arith, length-append text more),
  is ∙ ap (λ (t : List ℕ). old ++ t) (sym (take-append-le count text more (omega arith))),
)

-- a text joins what waits behind another
pub heard-behind : (old mid new text more : List ℕ) (result : Taken) → mid ≡ old ++ text → Hears mid new more result
    → Hears old new (text ++ more) result
heard-behind old mid new text more taken.Told first heard =
    heard ∙ ap (λ (m : List ℕ). m ++ more) first ∙ append_assoc old text more
heard-behind old mid new text more taken.Cut first (count, short, is) = (
  length text + count,
  omega (arith, length-append text more),
  is ∙ ap (λ (m : List ℕ). m ++ take count more) first ∙ append_assoc old text (take count more)
      ∙ ap (λ (t : List ℕ). old ++ t) (sym (take-append-add text more count)),
)
heard-behind old mid new text more (taken.Refused reason) first heard = absurd heard

-- the same text under another name
pub heard-as : (old new text told : List ℕ) (result : Taken) → told ≡ text → Hears old new told result → Hears old new text result
heard-as old new text told result same heard = subst (λ (t : List ℕ). Hears old new t result) same heard

-- the text of a reply for a client, and what stands behind the reply itself
abbrev pub behind : Reply → List ℕ
behind (leg_told text) = 10 ∷ []
behind (plan_told text) = 10 ∷ []
behind reply = []

-- what stands behind several lines
pub behind-lines : (control : ControlValue) (reply : Answered) → ((i : ℕ) × (reply ≡ answered.Leg i)) ⊎ (reply ≡ answered.Plan)
    → behind (reply_in control reply) ≡ 10 ∷ []
behind-lines control reply (inl (i, is)) = ap (λ (a : Answered). behind (reply_in control a)) is
behind-lines control reply (inr is) = ap (λ (a : Answered). behind (reply_in control a)) is

told-whole : (reply : Reply) → told_text reply ≡ text_of reply ++ behind reply
told-whole (leg_told text) = refl
told-whole (plan_told text) = refl
told-whole reply = sym (append-nil (text_of reply))

module _ {T E : Type 0} (put : Result T E) (told_in control : ControlValue) (reply : Answered) (old mid : List ℕ) (same : told_in ≡ control) where
  text-same : text_of (reply_in told_in reply) ≡ text_of (reply_in control reply)
  text-same = ap (λ (at : ControlValue). text_of (reply_in at reply)) same

  pub look-cut : (failed : Bool) → failed ≡ is_err put → failed ≡ true
      → OnErr put (AppendsFront (Some old) (Some mid) (text_of (reply_in told_in reply)))
      → Hears old mid (told_text (reply_in control reply)) taken.Cut
  look-cut failed means is front = by put (sym means ∙ is) front
    where
      by : (result : Result T E) → is_err result ≡ true → OnErr result (AppendsFront (Some old) (Some mid) (text_of (reply_in told_in reply)))
          → Hears old mid (told_text (reply_in control reply)) taken.Cut
      by (Ok value) failure front = cc
      by (Err error) failure front =
          let longer = cut-longer old mid (text_of (reply_in told_in reply)) (behind (reply_in control reply)) front.count front.short front.grown in
          heard-as old mid (told_text (reply_in control reply)) (text_of (reply_in told_in reply) ++ behind (reply_in control reply)) taken.Cut
          (ap (λ (t : List ℕ). t ++ behind (reply_in control reply)) text-same ∙ sym (told-whole (reply_in control reply))) longer

  pub look-told : (failed : Bool) → failed ≡ is_err put → failed ≡ false → OnOk put (Appends (Some old) (Some mid) (text_of (reply_in told_in reply)))
      → (new more : List ℕ) (result : Taken) → behind (reply_in control reply) ≡ more → Hears mid new more result
      → Hears old new (told_text (reply_in control reply)) result
  look-told failed means is whole new more result more_is heard =
      let first : mid ≡ old ++ text_of (reply_in told_in reply) = by put (sym means ∙ is) whole in
      let longer = heard-behind old mid new (text_of (reply_in told_in reply)) more result first heard in
      heard-as old new (told_text (reply_in control reply)) (text_of (reply_in told_in reply) ++ more) result
      ((λ n. text-same n ++ sym more_is n) ∙ sym (told-whole (reply_in control reply))) longer
    where
      by : (result : Result T E) → is_err result ≡ false → OnOk result (Appends (Some old) (Some mid) (text_of (reply_in told_in reply)))
          → mid ≡ old ++ text_of (reply_in told_in reply)
      by (Ok value) success whole = whole
      by (Err error) success whole = cc

-- ---- what is answered

-- a line was answered, and its text joined what waits, whole or a front of it
pub answered-line : (r r' : RegisterValue) (rights : Rights) (d n : ℕ) (line told told' : List ℕ) (how : How) (text : List ℕ)
    (result : Taken) → Answers r rights d n line r' how text → Hears told told' text result
    → IsAnswered r r' rights d n line told told' result
answered-line r r' rights d n line told told' how text taken.Told answers heard =
    record { how = how; text = text; answers = answers; hears = heard }
answered-line r r' rights d n line told told' how text taken.Cut answers heard =
    record { how = how; text = text; answers = answers; hears = heard }
answered-line r r' rights d n line told told' how text (taken.Refused reason) answers heard = absurd heard

-- ---- what was carried out

-- a reply has a row unless memory ran out
pub row-unless_memory : (old new : RegisterValue) (d n : ℕ) (c : Command) (a : Answered) → CarriesOut old new d n c a
    → (a ≡ answered.Memory → ⊥) → is_of_row a ≡ true
row-unless_memory old new d n c _ (ran_out passes) other = absurd (other refl)
row-unless_memory old new d n c _ (with_its_row a row carries) other = row

-- either way the line is answered
pub answers-carried : (r r' : RegisterValue) (rights : Rights) (d n : ℕ) (line : List ℕ) (c : Command) (a : Answered)
    → asked_in line ≡ asked.Says c → allows rights r.owners d c ≡ true → is_change c ≡ true → (desk_at r d).next ≤ n → r.rows < MOST_ROWS
    → CarriesOut r r' d n c a → (how : How) × Answers r rights d n line r' how (text_of (reply_in r'.control a))
answers-carried r r' rights d n line c _ says allowed changes new room (ran_out passes) =
    (passed c memory, runs_out c r' says allowed changes new room passes)
answers-carried r r' rights d n line c _ says allowed changes new room (with_its_row a row carries) =
    (carried c (reply_in r'.control a), is_carried c r' a says allowed changes new room carries)
