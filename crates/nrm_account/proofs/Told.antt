-- Lines that a teller read one after another, and one whose account was cut.
use Rattle.std.proofs.Common.{ℕ, ◌≡◌, ◌∙◌, ◌+◌, ◌-◌, ◌≤◌, ◌⊎◌, ◌==◌, Bool, true, false, eqb-true, List, [], ◌∷◌, ◌++◌, length, take, Option, Result, Ok, Err, inl, inr, refl, sym, ap, subst, append-nil, append_assoc, arith, if◌then◌else◌}
use Rattle.std.proofs.Math.Seq.{take-append-add}
use Rattle.std.specs.Prelude.{OnOk, OnErr}
use Rattle.std.specs.Io.KnownBytes.{Appends}
use Rattle.nrm_edge.specs.Causes.{HasCause, Rose}
use Rattle.nrm_edge.specs.Pieces.{AppendsFront}
use Rattle.nrm_model.specs.Network.{NetworkValue}
use Rattle.nrm_control.specs.State.{SeatState}
use Rattle.nrm_control.specs.Standing.{ControlValue, Represents}
use Rattle.nrm_stream.specs.declared.command.Command.{Command}
use Rattle.nrm_session.specs.Clerks.{AreMeanings, Answers, AnswersCut}
use Rattle.nrm_session.specs.Replies.{Reply}
use Rattle.nrm_account.specs.Tellers.{Passes, Tells, TellsCut, can_tell, reading_of}
use Rattle.nrm_account.specs.Readings.{Reading, Reads}
use Rattle.nrm_account.specs.Texts.{account_text, answer_text, asked_line, reasons}
use Rattle.nrm_account.specs.declared.teller.Teller.{Teller}

-- lines are read, and then further ones
reads-joined : (net : NetworkValue) (asked : ℕ) (r : Reading) (commands more : List Command) (text others : List ℕ) (mid r' : Reading)
    → Reads net asked r commands text mid → Reads net asked mid more others r' → Reads net asked r (commands ++ more) (text ++ others) r'
reads-joined net asked r [] more text others mid r' (none, same) rest =
    subst (λ (t : List ℕ). Reads net asked r more (t ++ others) r') (sym none) (subst (λ (m : Reading). Reads net asked m more others r') same rest)
reads-joined net asked r (c ∷ commands) more text others mid r' (next, first, own, line, run, is) rest = (
  next,
  first,
  own ++ others,
  line,
  reads-joined net asked next commands more own others mid r' run rest,
  ap (λ (t : List ℕ). t ++ others) is ∙ append_assoc first own others,
)

tells-nothing : (at : ControlValue × Teller) → Tells at at [] []
tells-nothing at = record { network = refl; asked = refl; run = λ s stands. (s, stands, (refl, refl)) }

module _ (old mid new : ControlValue × Teller) (commands more : List Command) (output text : List ℕ) (first : Tells old mid commands output) where
  tells-more : Tells mid new more text → Tells old new (commands ++ more) (output ++ text)
  tells-more rest = record {
    network = rest.network ∙ first.network;
    asked = rest.asked ∙ first.asked;
    run = λ s stands.
        let (m, stands_m, reads) = first.run s stands in
        let (s', stands', others) = rest.run m stands_m in
        let here : Reads old.0.net mid.1.asked (reading_of m mid.1) more text (reading_of s' new.1) =
        subst (λ (net : NetworkValue). Reads net mid.1.asked (reading_of m mid.1) more text (reading_of s' new.1)) first.network others in
        let there : Reads old.0.net old.1.asked (reading_of m mid.1) more text (reading_of s' new.1) =
        subst (λ (asked : ℕ). Reads old.0.net asked (reading_of m mid.1) more text (reading_of s' new.1)) first.asked here in
        (s', stands', reads-joined old.0.net old.1.asked (reading_of s old.1) commands more output text (reading_of m mid.1) (reading_of s' new.1) reads there);
  }

tells-then_cut : (old mid new : ControlValue × Teller) (commands more : List Command) (output text : List ℕ)
    → Tells old mid commands output → TellsCut mid new more text → TellsCut old new (commands ++ more) (output ++ text)
tells-then_cut old mid new commands more output text first cut = record {
  done = commands ++ cut.done;
  after = cut.after;
  commands_are = ap (λ cs. commands ++ cs) cut.commands_are ∙ sym (append_assoc commands cut.done cut.after);
  whole = output ++ cut.whole;
  count = length output + cut.count;
  front = ap (λ (t : List ℕ). output ++ t) cut.front ∙ sym (take-append-add output cut.whole cut.count);
  tells = tells-more old mid new commands cut.done output cut.whole first cut.tells;
}

tells-behind : (old new : ControlValue × Teller) (commands more : List Command) (output : List ℕ)
    → TellsCut old new commands output → TellsCut old new (commands ++ more) output
tells-behind old new commands more output cut = record {
  done = cut.done;
  after = cut.after ++ more;
  commands_are = ap (λ cs. cs ++ more) cut.commands_are ∙ append_assoc cut.done cut.after more;
  whole = cut.whole;
  count = cut.count;
  front = cut.front;
  tells = cut.tells;
}

pub tells-are : AreMeanings {V = ControlValue × Teller} Tells TellsCut
tells-are = record { nothing = tells-nothing; more = tells-more; then_cut = tells-then_cut; behind = tells-behind }

-- ---- one line
module _ (old new : ControlValue × Teller) (c : Command) (reply : Reply) (ran_out : Bool) (passes : Passes old new c reply ran_out) where
  -- what is written of a line, in each state that the controller represents
  abbrev Told : List ℕ → Type 0
  Told text = (s : SeatState) → Represents old.0 s
      → ((text ≡ (if old.1.left == 1 then account_text old.0.net old.1.asked old.1.planned s c reply else [])) × (ran_out ≡ old.1.ran_out))
      ⊎ (((old.1.left ≡ 1) × (text ≡ [])) × (ran_out ≡ true))

  as-told : {A B : Type 0} (now : Bool) → now ≡ ran_out → (A × (ran_out ≡ old.1.ran_out)) ⊎ (B × (ran_out ≡ true)) → (A × (now ≡ old.1.ran_out)) ⊎ (B × (now ≡ true))
  as-told now same (inl (a, kept)) = inl (a, same ∙ kept)
  as-told now same (inr (b, out)) = inr (b, same ∙ out)

  tells-one : (text : List ℕ) → Told text → Tells old new (c ∷ []) text
  tells-one text told = record {
    network = passes.steps.network;
    asked = ap (λ (t : Teller). t.asked) passes.teller;
    run = λ s stands.
        let (s', step, stands') = passes.steps.step s stands in (
          s',
          stands',
          (
            reading_of s' new.1,
            text,
            [],
            record {
              reply = reply;
              step = step;
              left = ap (λ (t : Teller). t.left) passes.teller;
              planned = ap (λ (t : Teller). t.planned) passes.teller;
              account = as-told new.1.ran_out (ap (λ (t : Teller). t.ran_out) passes.teller) (told s stands);
            },
            (refl, refl),
            sym (append-nil text),
          ),
        );
  }

  goes-on : can_tell old → can_tell new
  goes-on (control, within, below) =
      let left : new.1.left ≡ old.1.left - 1 = ap (λ (t : Teller). t.left) passes.teller in
      let asked : new.1.asked ≡ old.1.asked = ap (λ (t : Teller). t.asked) passes.teller in
      (passes.sound, omega (arith, left, asked, within), omega (arith, asked, below))

  pub answers-told : (text : List ℕ) (held held' : Option (List ℕ)) (faults faults' : ℕ) → can_tell old → Told text → Appends held held' text → faults' ≡ faults
      → Answers Tells can_tell old new (c ∷ []) held held' faults faults'
  answers-told text held held' faults faults' ready told written same = record {
    output = text;
    written = written;
    means = tells-one text told;
    counts = same;
    next = passes.steps.next;
    sound = goes-on ready;
  }

  cut-told : (text : List ℕ) (held held' : Option (List ℕ)) (faults faults' : ℕ) → can_tell old → Told text → AppendsFront held held' text → Rose faults faults' → faults ≤ faults'
      → AnswersCut TellsCut can_tell old new (c ∷ []) held held' faults faults'
  cut-told text held held' faults faults' ready told front rose later = record {
    output = take front.count text;
    written = front.grown;
    means = record { done = c ∷ []; after = []; commands_are = refl; whole = text; count = front.count; front = refl; tells = tells-one text told };
    rose = rose;
    later = later;
    sound = goes-on ready;
  }

  pub put-whole : {T E : Type 0} (result : Result T E) (text : List ℕ) (held held' : Option (List ℕ)) (faults faults' : ℕ) → can_tell old → Told text
      → OnOk result (Appends held held' text) → HasCause faults faults' result → OnOk result (Answers Tells can_tell old new (c ∷ []) held held' faults faults')
  put-whole (Ok value) text held held' faults faults' ready told written cause = answers-told text held held' faults faults' ready told written cause.done
  put-whole (Err error) text held held' faults faults' ready told written cause = tt

  pub put-cut : {T E : Type 0} (result : Result T E) (text : List ℕ) (held held' : Option (List ℕ)) (faults faults' : ℕ) → can_tell old → Told text
      → OnErr result (AppendsFront held held' text) → HasCause faults faults' result → OnErr result (AnswersCut TellsCut can_tell old new (c ∷ []) held held' faults faults')
  put-cut (Ok value) text held held' faults faults' ready told front cause = tt
  put-cut (Err error) text held held' faults faults' ready told front cause = cut-told text held held' faults faults' ready told front cause.failed cause.later

-- what was made in a state that a controller represents is the account in that state
pub told-account : (control : ControlValue) (asked planned : ℕ) (c : Command) (reply : Reply) (front : List ℕ) (s : SeatState) → Represents control s
    → front ≡ asked_line asked c ++ reasons control.net planned control.plan control.bookings control.next c
    → front ++ answer_text reply ≡ account_text control.net asked planned s c reply
told-account control asked planned c reply front s stands is =
    ap (λ (f : List ℕ). f ++ answer_text reply) is
    ∙ (λ n. (asked_line asked c ++ reasons control.net planned (sym stands.plan n) (sym stands.bookings n) (sym stands.next n) c) ++ answer_text reply)

-- what is written of the line that is asked for, and of another
pub asked-now : (left : ℕ) {text account : List ℕ} → left ≡ 1 → text ≡ account → text ≡ (if left == 1 then account else [])
asked-now left is same = rw is same

pub asked-not : (left : ℕ) (account : List ℕ) → (left ≡ 1 → ⊥) → [] ≡ (if left == 1 then account else [])
asked-not left account other = by (left == 1) refl
  where
    by : (b : Bool) → (left == 1) ≡ b → [] ≡ (if left == 1 then account else [])
    by true e = absurd (other (eqb-true left 1 e))
    by false e = rw e refl
