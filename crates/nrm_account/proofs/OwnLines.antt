-- What is written as lines are read is the account of the line that is asked for.
use Rattle.std.proofs.Common.{ℕ, ◌≡◌, ◌∙◌, ◌+◌, ◌-◌, ◌<◌, ◌≤◌, ◌⊎◌, ◌==◌, Bool, true, false, eqb-true, List, [], ◌∷◌, ◌++◌, length, inl, inr, refl, sym, ap, subst, append-nil, arith, if◌then◌else◌}
use Rattle.std.proofs.lemmas.Bool.{cases_Bool, eqb-false}
use Rattle.nrm_model.specs.Network.{NetworkValue}
use Rattle.nrm_control.specs.State.{SeatState}
use Rattle.nrm_stream.specs.declared.command.Command.{Command}
use Rattle.nrm_session.specs.Replies.{Reply}
use Rattle.nrm_session.specs.Run.{Run}
use Rattle.nrm_session.specs.Step.{Step}
use Rattle.nrm_account.specs.Laws.{AccountsAreOfTheirLines, OutOfMemoryWritesNothing}
use Rattle.nrm_account.specs.Readings.{Reading, Reads, ReadsLine, planned_after, unread}
use Rattle.nrm_account.specs.Texts.{account_text}
use Rattle.nrm_account.proofs.Told.{asked-not}

-- once memory ran out, it stays so
out-by : (r r' : Reading) {A B : Type 0} → r.ran_out ≡ true → (A × (r'.ran_out ≡ r.ran_out)) ⊎ (B × (r'.ran_out ≡ true)) → r'.ran_out ≡ true
out-by r r' out (inl (is, kept)) = kept ∙ out
out-by r r' out (inr (none, now)) = now

stays-out : (net : NetworkValue) (asked : ℕ) (r : Reading) (commands : List Command) (text : List ℕ) (r' : Reading)
    → Reads net asked r commands text r' → r.ran_out ≡ true → r'.ran_out ≡ true
stays-out net asked r [] text r' (none, same) out = ap (λ (at : Reading). at.ran_out) same ∙ out
stays-out net asked r (c ∷ commands) text r' (mid, first, rest, line, run, is) out =
    stays-out net asked mid commands rest r' run (out-by r mid out line.account)

-- the account of the line that is asked for, among lines that are read from a reading on
record IsAmong (net : NetworkValue) (asked : ℕ) (r : Reading) (commands : List Command) (text : List ℕ) : Type 0 where
  before : List Command
  command : Command
  after : List Command
  commands_are : commands ≡ before ++ command ∷ after
  number : r.left ≡ length before + 1
  replies : List Reply
  state : SeatState
  run : Run net r.state before replies state
  reply : Reply
  next : SeatState
  step : Step net state command reply next
  account : text ≡ account_text net asked (planned_after replies (asked - r.left + 1) r.planned) state command reply

-- lines that are read while memory suffices
module _ (net : NetworkValue) (asked : ℕ) (last : Reading) (suffices : last.ran_out ≡ false) where
  -- the first line's text
  first-text : (r mid : Reading) (c : Command) (commands : List Command) (first rest : List ℕ) (line : ReadsLine net asked r c first mid)
      → Reads net asked mid commands rest last → first ≡ (if r.left == 1 then account_text net asked r.planned r.state c line.reply else [])
  first-text r mid c commands first rest line run = by line.account
    where
      by : ((first ≡ (if r.left == 1 then account_text net asked r.planned r.state c line.reply else [])) × (mid.ran_out ≡ r.ran_out))
          ⊎ (((r.left ≡ 1) × (first ≡ [])) × (mid.ran_out ≡ true)) → first ≡ (if r.left == 1 then account_text net asked r.planned r.state c line.reply else [])
      by (inl (is, kept)) = is
      by (inr (none, out)) = let wrong : true ≡ false = sym (stays-out net asked mid commands rest last run out) ∙ suffices in cc

  -- of a line that is not asked for, nothing
  first-none : (r mid : Reading) (c : Command) (commands : List Command) (first rest : List ℕ) → ReadsLine net asked r c first mid
      → Reads net asked mid commands rest last → (r.left ≡ 1 → ⊥) → first ≡ []
  first-none r mid c commands first rest line run other =
      first-text r mid c commands first rest line run ∙ sym (asked-not r.left (account_text net asked r.planned r.state c line.reply) other)

  -- after the line that is asked for nothing more is written
  nothing-after : (r : Reading) (commands : List Command) (text : List ℕ) → r.left ≡ 0 → Reads net asked r commands text last
      → (text ≡ []) × (last.left ≡ 0)
  nothing-after r [] text done (none, same) = (none, ap (λ (at : Reading). at.left) same ∙ done)
  nothing-after r (c ∷ commands) text done (mid, first, rest, line, run, is) =
      let (none, end) = nothing-after mid commands rest (omega (arith, line.left, done)) run in
      let here : first ≡ [] = first-none r mid c commands first rest line run (λ one. omega (arith, one, done)) in
      (is ∙ (λ n. here n ++ none n), end)

  -- what the lines write: the account if the line that is asked for is among them, and else nothing
  abbrev Written : Reading → List Command → List ℕ → Type 0
  Written r commands text = (last.left ≡ 0 → IsAmong net asked r commands text) × (0 < last.left → text ≡ [])

  module _ (r mid : Reading) (c : Command) (commands : List Command) (text first rest : List ℕ) (line : ReadsLine net asked r c first mid)
      (run : Reads net asked mid commands rest last) (is : text ≡ first ++ rest) where
    -- the first line is the one
    at-first : r.left ≡ 1 → r.left ≤ asked → Written r (c ∷ commands) text
    at-first one within =
        let (none, end) = nothing-after mid commands rest (omega (arith, line.left, one)) run in
        let shown : first ≡ account_text net asked r.planned r.state c line.reply =
        subst (λ (left : ℕ). first ≡ (if left == 1 then account_text net asked r.planned r.state c line.reply else [])) one
        (first-text r mid c commands first rest line run) in (
          λ over. record {
            before = [];
            command = c;
            after = commands;
            commands_are = refl;
            number = one;
            replies = [];
            state = r.state;
            run = refl;
            reply = line.reply;
            next = mid.state;
            step = line.step;
            account = is ∙ ap (λ (t : List ℕ). first ++ t) none ∙ append-nil first ∙ shown;
          },
          λ more. absurd (omega (arith, more, end)),
        )

    -- it is a later one
    at-later : (r.left ≡ 1 → ⊥) → 1 ≤ r.left → r.left ≤ asked → Written mid commands rest → Written r (c ∷ commands) text
    at-later other some within (found, none) =
        let here : first ≡ [] = first-none r mid c commands first rest line run other in
        let same : text ≡ rest = is ∙ ap (λ (t : List ℕ). t ++ rest) here in
        let before_it : r.left ≡ mid.left + 1 = omega (arith, line.left, some) in
        let line_number : asked - mid.left + 1 ≡ asked - r.left + 1 + 1 = omega (arith, before_it, within) in (
          λ over.
              let among = found over in record {
                before = c ∷ among.before;
                command = among.command;
                after = among.after;
                commands_are = ap (λ (more : List Command). c ∷ more) among.commands_are;
                number = omega (arith, before_it, among.number);
                replies = line.reply ∷ among.replies;
                state = among.state;
                run = (mid.state, line.step, among.run);
                reply = among.reply;
                next = among.next;
                step = among.step;
                account = same ∙ among.account
                    ∙ (λ n. account_text net asked (planned_after among.replies (line_number n) (line.planned n)) among.state among.command among.reply);
              },
          λ more. same ∙ none more,
        )

  written : (r : Reading) (commands : List Command) (text : List ℕ) → 1 ≤ r.left → r.left ≤ asked → Reads net asked r commands text last
      → Written r commands text
  written r [] text some within (none, same) =
      (λ over. absurd (omega (arith, some, over, ap (λ (at : Reading). at.left) same)), λ more. none)
  written r (c ∷ commands) text some within (mid, first, rest, line, run, is) =
      by (r.left == 1) refl (λ low high. written mid commands rest low high run)
    where
      by : (b : Bool) → (r.left == 1) ≡ b → (1 ≤ mid.left → mid.left ≤ asked → Written mid commands rest) → Written r (c ∷ commands) text
      by true e more = at-first r mid c commands text first rest line run is (eqb-true r.left 1 e) within
      by false e more =
          let other : r.left ≡ 1 → ⊥ = eqb-false r.left 1 e in
          at-later r mid c commands text first rest line run is other some within
          (more (omega (arith, line.left, some, other)) (omega (arith, line.left, within)))

pub accounts-of_lines : AccountsAreOfTheirLines
accounts-of_lines net start asked commands text last some reads suffices =
    let (found, none) = written net asked last suffices (unread asked start) commands text some (omega arith) reads in
    let first : asked - asked + 1 ≡ 1 = omega arith in (
      λ over.
          let among = found over in record {
            before = among.before;
            command = among.command;
            after = among.after;
            commands_are = among.commands_are;
            number = among.number;
            replies = among.replies;
            state = among.state;
            run = among.run;
            reply = among.reply;
            next = among.next;
            step = among.step;
            account = among.account
                ∙ ap (λ (line : ℕ). account_text net asked (planned_after among.replies line 0) among.state among.command among.reply) first;
          },
      none,
    )

-- ---- memory ran out
module _ (net : NetworkValue) (asked : ℕ) where
  -- for a line that is not asked for none is taken
  other-line : (r mid : Reading) (c : Command) (first : List ℕ) → ReadsLine net asked r c first mid → (r.left ≡ 1 → ⊥)
      → (first ≡ []) × (mid.ran_out ≡ r.ran_out)
  other-line r mid c first line other = by line.account
    where
      by : ((first ≡ (if r.left == 1 then account_text net asked r.planned r.state c line.reply else [])) × (mid.ran_out ≡ r.ran_out))
          ⊎ (((r.left ≡ 1) × (first ≡ [])) × (mid.ran_out ≡ true)) → (first ≡ []) × (mid.ran_out ≡ r.ran_out)
      by (inl (is, kept)) = (is ∙ sym (asked-not r.left (account_text net asked r.planned r.state c line.reply) other), kept)
      by (inr ((one, none), out)) = absurd (other one)

  joined-none : (text first rest : List ℕ) → text ≡ first ++ rest → first ≡ [] → rest ≡ [] → text ≡ []
  joined-none text first rest is none others = is ∙ ap (λ (t : List ℕ). t ++ rest) none ∙ others

  -- nor behind the one that is
  no-more : (r : Reading) (commands : List Command) (text : List ℕ) (last : Reading) → Reads net asked r commands text last → r.left ≡ 0
      → (text ≡ []) × (last.ran_out ≡ r.ran_out)
  no-more r [] text last (none, same) over = (none, ap (λ (at : Reading). at.ran_out) same)
  no-more r (c ∷ commands) text last (mid, first, rest, line, run, is) over =
      let (none, kept) = other-line r mid c first line (λ one. omega (arith, over, one)) in
      let (others, same) = no-more mid commands rest last run (omega (arith, line.left, over)) in
      (joined-none text first rest is none others, same ∙ kept)

  none-written : (r : Reading) (commands : List Command) (text : List ℕ) (last : Reading) → Reads net asked r commands text last
      → r.ran_out ≡ false → last.ran_out ≡ true → text ≡ []
  none-written r [] text last (none, same) before out = none
  none-written r (c ∷ commands) text last (mid, first, rest, line, run, is) before out =
      by (λ suffices. none-written mid commands rest last run suffices out) line.account
    where
      by : (mid.ran_out ≡ false → rest ≡ [])
          → ((first ≡ (if r.left == 1 then account_text net asked r.planned r.state c line.reply else [])) × (mid.ran_out ≡ r.ran_out))
          ⊎ (((r.left ≡ 1) × (first ≡ [])) × (mid.ran_out ≡ true)) → text ≡ []
      by others (inr ((one, none), now)) =
          joined-none text first rest is none (no-more mid commands rest last run (omega (arith, line.left, one))).0
      by others (inl (written, kept)) = elim (cases_Bool (r.left == 1)) [
        | inl e ↦
            let over : mid.left ≡ 0 = omega (arith, line.left, eqb-true r.left 1 e) in
            let wrong : true ≡ false = sym out ∙ (no-more mid commands rest last run over).1 ∙ kept ∙ before in
            absurd (cc)
        | inr e ↦ joined-none text first rest is (written ∙ rw e refl) (others (kept ∙ before))
      ]

pub nothing-written : OutOfMemoryWritesNothing
nothing-written net start asked commands text last reads out = none-written net asked (unread asked start) commands text last reads refl out
