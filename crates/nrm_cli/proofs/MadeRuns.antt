-- The commands of a maker are answered one after another, and their replies counted.
use Rattle.std.proofs.Common.{ℕ, suc, ◌≡◌, ◌≢◌, ◌∙◌, ◌+◌, ◌-◌, ◌≤◌, ◌<◌, ◌++◌, ◌∷◌, [], List, Option, Some, None, Bool}
use Rattle.std.proofs.Common.{if◌then◌else◌, length, refl, sym, ap, subst, arith, inl, inr, append-nil, append_assoc, length-append}
use Rattle.std.proofs.lemmas.Bool.{cases_lt, le-ltb, lt-ltb}
use Rattle.std.proofs.lemmas.List.Elements.{All-nil, All-cons, All-append}
use Rattle.nrm_text.specs.Words.{text_line}
use Rattle.nrm_model.specs.Inventory.{inventory_of}
use Rattle.nrm_model.specs.declared.mode.Mode.{Mode}
use Rattle.nrm_model.specs.Network.{NetworkValue}
use Rattle.nrm_book.specs.Bookings.{revenue_of}
use Rattle.nrm_book.specs.declared.booking.Booking.{Booking}
use Rattle.nrm_plan.specs.Plans.{IsOpeningPlan, PlanValue}
use Rattle.nrm_control.specs.State.{opening}
use Rattle.nrm_control.specs.Standing.{ControlValue, IsControl}
use Rattle.nrm_stream.specs.declared.command.Command.{Command}
use Rattle.nrm_session.specs.Answering.{IsTellable, Steps, reply_in}
use Rattle.nrm_session.specs.Replies.{Reply, memory, text_of}
use Rattle.nrm_session.specs.Run.{Run}
use Rattle.nrm_session.specs.Step.{Step}
use Rattle.nrm_session.specs.declared.reply.Reply.{Reply as Answered}
use Rattle.nrm_session.specs.declared.reply.Reply.TheVariants as answered
use Rattle.nrm_session.proofs.Answered.{run-joined}
use Rattle.nrm_common_cli.specs.Outside.{LeftStream, Outside}
use Rattle.nrm_gen.specs.MadeNetwork.{made_network}
use Rattle.nrm_gen.specs.MadeCommands.{Making, after_next, command_at, command_count, made_commands, next_of}
use Rattle.nrm_gen.proofs.OneByOne.{given-first, given-none}
use Rattle.nrm_findings.specs.Summary.{hindsight_word, nothing_counted, summary_words}
use Rattle.nrm_cli.specs.Made.{MadeRun, counted, counts_from, hindsight_in, last_of}
use Rattle.nrm_cli.specs.Ends.{Ends, Failures}
use Rattle.nrm_cli.specs.Jobs.{run_made}
use Rattle.nrm_cli.specs.Tells.{of_network}
use Rattle.nrm_cli.specs.Inner.Parts.{AnswersMade, HasBegun, PutsMade, PutsSummary, rest_of, total_of}
use Rattle.nrm_cli.specs.declared.status.Status.{Status}
use Rattle.nrm_cli.specs.declared.status.Status.TheVariants as status
use Rattle.nrm_session.proofs.ServedBy.{opened}
use Rattle.nrm_cli.proofs.PlanEnds.{unplanned-ends, unplanned-failures}
use Rattle.nrm_cli.proofs.ToldEnds.{told-ends}
use Rattle.nrm_findings.specs.declared.summary.Counts.{Counts}

-- ---- one reply more
counts-more : (c : Counts) (replies : List Reply) (reply : Reply)
    → counts_from c (replies ++ reply ∷ []) ≡ counted (counts_from c replies) (last_of replies)
counts-more c [] reply = refl
counts-more c (first ∷ []) reply = refl
counts-more c (first ∷ second ∷ more) reply = counts-more (counted c first) (second ∷ more) reply

last-more : (replies : List Reply) (reply : Reply) → last_of (replies ++ reply ∷ []) ≡ reply
last-more [] reply = refl
last-more (first ∷ []) reply = refl
last-more (first ∷ second ∷ more) reply = last-more (second ∷ more) reply

-- ---- the commands so far were answered, and with those that the maker still gives they are all that it had to give
pub record FrontMade (old now : ControlValue) (at_first left : Making) (counts : Counts) (last : Answered) : Type 0 where
  pub front : List Command
  pub answers : AnswersMade old now front counts last
  pub together : front ++ rest_of left ≡ rest_of at_first
  pub next : now.next ≤ old.next + length front
  pub given : length front ≤ left.given
  pub within : left.given ≤ command_count

-- the command that the maker gives is the first of those that it still has
taken : (left : Making) (command : Command) → next_of left ≡ Some command
    → (left.given < command_count) × (rest_of left ≡ command ∷ rest_of (after_next left)) × ((after_next left).given ≡ suc left.given)
taken left command is = elim (cases_lt left.given command_count) [
  | inl few ↦
      let after : Making = record { state = (command_at (suc left.given) left.state).1; given = suc left.given } in
      (few, given-first left command (sym is), ap (λ (b : Bool). (if b then after else left).given) (lt-ltb left.given command_count few))
  | inr all ↦
      let none : next_of left ≡ None = ap (λ (b : Bool). if b then Some (command_at (suc left.given) left.state).0 else None) (le-ltb left.given command_count all) in
      absurd (cc (none, is))
]

not-memory : (control : ControlValue) (reply : Answered) → reply ≢ answered.Memory → reply_in control reply ≢ memory
not-memory control answered.Bad other is = cc
not-memory control answered.Unknown other is = cc
not-memory control (answered.Sold number) other is = cc
not-memory control (answered.NoLeg i) other is = cc
not-memory control answered.NoFare other is = cc
not-memory control (answered.Cancelled number refund) other is = cc
not-memory control (answered.Optimised num den) other is = cc
not-memory control answered.OptimisedNone other is = cc
not-memory control answered.Overflow other is = cc
not-memory control answered.Memory other is = other refl
not-memory control (answered.Hindsight num den revenue withheld) other is = cc
not-memory control (answered.Leg i) other is = cc
not-memory control answered.Plan other is = cc

module _ (old now new : ControlValue) (at_first left after : Making) (counts counts' : Counts) (last reply : Answered) (command : Command) (made : FrontMade old now at_first left counts last) where
  pub made-more : next_of left ≡ Some command → after ≡ after_next left
      → ((control : ControlValue) → counts' ≡ counted counts (reply_in control last)) → total_of counts' ≤ total_of counts + 1
      → Steps now new command (reply_in new reply) → IsTellable new.net reply → IsControl new → reply ≢ answered.Memory
      → FrontMade old new at_first after counts' reply
  made-more gives goes count total steps tellable sound other =
      let (few, rest, given) = taken left command gives in
      let told : Reply = reply_in new reply in
      record {
        front = made.front ++ command ∷ [];
        answers = record {
          network = steps.network ∙ made.answers.network;
          tellable = tellable;
          run = λ s stands.
              let (mid, replies, stands_mid, run, suffices, counts_are, last_is) = made.answers.run s stands in
              let (s', step, stands') = steps.step mid stands_mid in (
                s',
                replies ++ told ∷ [],
                stands',
                run-joined (Step old.net) text_of s made.front replies mid (command ∷ []) (told ∷ []) s' run (s', subst (λ (net : NetworkValue). Step net mid command told s') made.answers.network step, refl),
                All-append (λ r. r ≢ memory) replies (told ∷ []) suffices (All-cons (λ r. r ≢ memory) told [] (not-memory new reply other) (All-nil (λ r. r ≢ memory))),
                count now ∙ ap (λ (c : Counts). counted c (reply_in now last)) counts_are ∙ ap (counted (counts_from nothing_counted replies)) (sym last_is) ∙ sym (counts-more nothing_counted replies told),
                last-more replies told,
              );
          sound = sound;
          few = omega (arith, total, made.answers.few, length-append made.front (command ∷ []));
        };
        together =
            append_assoc made.front (command ∷ []) (rest_of after)
            ∙ ap (λ (m : Making). made.front ++ command ∷ rest_of m) goes
            ∙ ap (λ (commands : List Command). made.front ++ commands) (sym rest)
            ∙ made.together;
        next = omega (arith, steps.next, made.next, length-append made.front (command ∷ []));
        given = omega (arith, made.given, given, ap (λ (m : Making). m.given) goes, length-append made.front (command ∷ []));
        within = omega (arith, few, given, ap (λ (m : Making). m.given) goes);
      }

-- at the end the maker has none left
no-command : (given : Option Command) → ((command : Command) → given ≡ Some command → ⊥) → None ≡ given
no-command None other = refl
no-command (Some command) other = absurd (other command refl)

pub all-made : (old now : ControlValue) (at_first left : Making) (counts : Counts) (last : Answered)
    → FrontMade old now at_first left counts last
    → ((command : Command) → next_of left ≡ Some command → ⊥) → AnswersMade old now (rest_of at_first) counts last
all-made old now at_first left counts last made no_more =
    let none = given-none left (no-command (next_of left) no_more) in
    let whole : made.front ≡ rest_of at_first = sym (append-nil made.front) ∙ ap (λ (commands : List Command). made.front ++ commands) (sym none) ∙ made.together in
    subst (λ (commands : List Command). AnswersMade old now commands counts last) whole made.answers

-- there are fewer left
pub fewer-left : (left after : Making) (command : Command) → next_of left ≡ Some command → after ≡ after_next left
    → command_count - after.given < command_count - left.given
fewer-left left after command gives goes =
    let (few, rest, given) = taken left command gives in
    omega (arith, few, given, ap (λ (m : Making). m.given) goes)

-- from the opening it is the run over the commands that are made of a number
pub made-run : (old new : ControlValue) (net : NetworkValue) (number : ℕ) (at_first : Making) (counts : Counts) (last : Answered) (text : List ℕ)
    → HasBegun net old → rest_of at_first ≡ made_commands number → AnswersMade old new (rest_of at_first) counts last
    → text ≡ text_line (summary_words counts (revenue_of (inventory_of new.net) new.bookings) (hindsight_word (hindsight_in (reply_in new last)))) → MadeRun net old.plan number text
made-run old new net number at_first counts last text begun all answers is =
    let (s, replies, stands, run, suffices, counts_are, last_is) = answers.run (opening old.plan) (opened old net begun) in
    let same : old.net ≡ net = ap (λ (c : ControlValue). c.net) begun in
    let line : Counts → NetworkValue → List Booking → Reply → List ℕ = λ c n bookings reply. text_line (summary_words c (revenue_of (inventory_of n) bookings) (hindsight_word (hindsight_in reply))) in
    record {
      replies = replies;
      last = s;
      run = subst (λ (commands : List Command). Run net (opening old.plan) commands replies s) all (subst (λ (n : NetworkValue). Run n (opening old.plan) (rest_of at_first) replies s) same run);
      suffices = suffices;
      summary = is ∙ (λ i. line (counts_are i) ((answers.network ∙ same) i) (sym stands.bookings i) (sym last_is i));
    }

-- ---- how a made run ends
pub summary-ends : (m : Mode) (number : ℕ) (net : NetworkValue) (plan : PlanValue) (before after : Outside) (s : Status)
    → net ≡ made_network number → IsOpeningPlan net m plan → LeftStream before after
    → PutsSummary net plan number before.held after.held before.sink_faults after.sink_faults s → Ends (Some (run_made m number)) before after s
summary-ends m number net plan before after s made opening left (inl (is, kept, same)) = rw is (kept, left)
summary-ends m number net plan before after s made opening left (inr (text, run, puts)) =
    told-ends (Some (run_made m number)) before after status.Done s text
    (of_network (run_made m number) net (refl, made) tt (inl (plan, opening, run, refl))) puts left

-- and which counts stay
pub summary-failures : (net : NetworkValue) (plan : PlanValue) (number : ℕ) (before after : Outside) (s : Status)
    → after.file_faults ≡ before.file_faults → after.source_faults ≡ before.source_faults
    → PutsSummary net plan number before.held after.held before.sink_faults after.sink_faults s → Failures s before after
summary-failures net plan number before after s files source (inl (is, kept, same)) = rw is (record { files = files; source = source; sink = same })
summary-failures net plan number before after s files source (inr (text, run, inl (is, wrote, same))) = rw is (record { files = files; source = source; sink = same })
summary-failures net plan number before after s files source (inr (text, run, inr (is, front, rose))) = rw is (source, inl files)

-- by whether there is an opening plan
pub made-ends : (m : Mode) (number : ℕ) (net : NetworkValue) (before after : Outside) → net ≡ made_network number → LeftStream before after
    → (s : Status) → PutsMade net m number before.held after.held before.sink_faults after.sink_faults s → Ends (Some (run_made m number)) before after s
made-ends m number net before after made left s (inl (plan, opening, puts)) = summary-ends m number net plan before after s made opening left puts
made-ends m number net before after made left s (inr (why, is, puts)) =
    unplanned-ends (run_made m number) m net before after (λ goes text none. inr none) (refl, made) left why s is puts

pub made-failures : (m : Mode) (number : ℕ) (net : NetworkValue) (before after : Outside) → after.file_faults ≡ before.file_faults
    → after.source_faults ≡ before.source_faults
    → (s : Status) → PutsMade net m number before.held after.held before.sink_faults after.sink_faults s → Failures s before after
made-failures m number net before after files source s (inl (plan, opening, puts)) = summary-failures net plan number before after s files source puts
made-failures m number net before after files source s (inr (why, is, puts)) = unplanned-failures before after files source why s puts
