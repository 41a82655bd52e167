-- What a `plan` line prints: the plan in force is that of the last line that was answered `optimised`, and its certificate is optimal.
use Rattle.std.proofs.Common.{ℕ, ◌≡◌, ◌⊎◌, ◌∙◌, Bool, true, false, List, [], ◌∷◌, ◌++◌, Option, Some, None, MatchOption, option_map}
use Rattle.std.proofs.Common.{inl, inr, ap, refl, sym, subst}
use Rattle.std.specs.Bool.{MatchBool}
use Rattle.std.proofs.lemmas.List.Elements.{All-cons, All-nil}
use Rattle.nrm_fraction.specs.Fraction.{Fraction}
use Rattle.nrm_model.specs.Network.{NetworkValue, leg_named, product_named}
use Rattle.nrm_model.specs.declared.mode.Mode.{Mode}
use Rattle.nrm_lp.specs.declared.certificate.Certificate.{Certificate}
use Rattle.nrm_book.specs.Bookings.{booking_numbered}
use Rattle.nrm_fraction.specs.Large.{size_limit}
use Rattle.nrm_model.specs.Inventory.{inventory_of}
use Rattle.nrm_lp.specs.Certified.{Certifies}
use Rattle.nrm_lp.specs.Means.{mean_value}
use Rattle.nrm_dlp.specs.Programs.{program_at}
use Rattle.nrm_plan.specs.Plans.{IsOpeningPlan, IsPlanFor, PlanValue, value_of}
use Rattle.nrm_report.specs.Texts.{text_of_plan}
use Rattle.nrm_control.specs.State.{SeatState, after_answer, after_cancellation, answer_in, opening, seats_left}
use Rattle.nrm_control.specs.declared.answer.Answer.{Answer}
use Rattle.nrm_control.specs.declared.answer.Answer.TheVariants as answer
use Rattle.nrm_stream.specs.declared.command.Command.{Command}
use Rattle.nrm_stream.specs.declared.command.Command.TheVariants as command
use Rattle.nrm_session.specs.Replies.{Reply, bad, memory, optimised, optimised_at, optimised_none, overflow, plan_told, reply_to, unknown}
use Rattle.nrm_session.specs.Step.{Gives, LooksBack, Reoptimises, Step, is_large, lacks_memory, optimises, overflows, tells, runs_out_of_memory}
use Rattle.nrm_session.specs.Step.{lacks_period}
use Rattle.nrm_session.specs.Run.{Run}
use Rattle.nrm_session.specs.LastPlan.{at_line, at_opening, IsPlannedFor, NoneTellsOfPlan, PrintedFromOpeningPlans, PrintedPricesAreOptimal, PrintsOptimalPrices}
use Rattle.nrm_session.specs.LastPlan.{PrintsOptimalPrices, TellsOfPlan}
use Rattle.nrm_session.proofs.InForce.{plans-stay_optimal}

-- a reply of another kind tells of none
not-told : (r : Reply) → ((value : Fraction) → r ≡ optimised value → ⊥) → (r ≡ optimised_none → ⊥) → TellsOfPlan r → ⊥
not-told r one none (None, e) = none e
not-told r one none (Some value, e) = one value e

answered : (net : NetworkValue) (given : Answer) → TellsOfPlan (reply_to net given) → ⊥
answered net (answer.Sold number) = not-told _ (λ v e. cc) (λ e. cc)
answered net (answer.Leg i) = not-told _ (λ v e. cc) (λ e. cc)
answered net answer.Fare = not-told _ (λ v e. cc) (λ e. cc)

-- a line that leaves the plan, and one that makes a new one
record Keeps (s : SeatState) (reply : Reply) (s' : SeatState) : Type 0 where
  plan : s'.plan ≡ s.plan
  none : TellsOfPlan reply → ⊥

record Plans (net : NetworkValue) (s : SeatState) (c : Command) (reply : Reply) (s' : SeatState) : Type 0 where
  period : ℕ
  line : c ≡ command.Reoptimise period
  told : reply ≡ optimised_at (value_of net s'.plan)
  for : IsPlanFor net s.plan.mode (seats_left net s.bookings) period s'.plan

keeps : (s s' : SeatState) (reply told : Reply) → (TellsOfPlan told → ⊥) → reply ≡ told → s'.plan ≡ s.plan → Keeps s reply s'
keeps s s' reply told apart is same = record { plan = same; none = subst (λ (r : Reply). TellsOfPlan r → ⊥) (sym is) apart }

same-state : (s s' : SeatState) → s' ≡ s → s'.plan ≡ s.plan
same-state s s' same = ap (λ (state : SeatState). state.plan) same

by-option : {X : Type 0} (o : Option X) (s s' : SeatState) (reply none : Reply) (some : X → Reply) (changed : X → SeatState)
    → (TellsOfPlan none → ⊥) → ((x : X) → TellsOfPlan (some x) → ⊥)
    → ((x : X) → (changed x).plan ≡ s.plan) → MatchOption o ((reply ≡ none) × (s' ≡ s)) (λ x. (reply ≡ some x) × (s' ≡ changed x))
    → Keeps s reply s'
by-option None s s' reply none some changed apart others same told = keeps s s' reply none apart told.0 (same-state s s' told.1)
by-option (Some x) s s' reply none some changed apart others same told =
    keeps s s' reply (some x) (others x) told.0 (ap (λ (state : SeatState). state.plan) told.1 ∙ same x)

answered-plan : (s : SeatState) (j party : ℕ) (given : Answer) → (after_answer s j party given).plan ≡ s.plan
answered-plan s j party (answer.Sold number) = refl
answered-plan s j party (answer.Leg i) = refl
answered-plan s j party answer.Fare = refl

no-unknown : TellsOfPlan unknown → ⊥
no-unknown = not-told unknown (λ v e. cc) (λ e. cc)

again : (net : NetworkValue) (s : SeatState) (k : ℕ) (reply : Reply) (s' : SeatState) → Reoptimises net s k reply s' → Keeps s reply s'
    ⊎ Plans net s (command.Reoptimise k) reply s'
again net s k reply s' (optimises plan for) = inr (record { period = k; line = refl; told = refl; for = for })
again net s k reply s' (overflows n number large) = inl (record { plan = refl; none = not-told overflow (λ v e. cc) (λ e. cc) })
again net s k reply s' (runs_out_of_memory solves) = inl (record { plan = refl; none = not-told memory (λ v e. cc) (λ e. cc) })

in-period : (net : NetworkValue) (beyond : Bool) (s : SeatState) (k : ℕ) (reply : Reply) (s' : SeatState)
    → MatchBool beyond (Gives unknown reply s s') (Reoptimises net s k reply s')
    → Keeps s reply s' ⊎ Plans net s (command.Reoptimise k) reply s'
in-period net true s k reply s' told = inl (keeps s s' reply unknown no-unknown told.0 (same-state s s' told.1))
in-period net false s k reply s' made = again net s k reply s' made

looks : (net : NetworkValue) (s : SeatState) (reply : Reply) → LooksBack net s reply → TellsOfPlan reply → ⊥
looks net s reply (tells value is) = not-told _ (λ v e. cc) (λ e. cc)
looks net s reply (is_large n number large) = not-told _ (λ v e. cc) (λ e. cc)
looks net s reply lacks_memory = not-told _ (λ v e. cc) (λ e. cc)

step-plans : (net : NetworkValue) (s : SeatState) (c : Command) (reply : Reply) (s' : SeatState) → Step net s c reply s' → Keeps s reply s'
    ⊎ Plans net s c reply s'
step-plans net s (command.Book name party) reply s' told =
    inl (by-option (product_named net name) s s' reply unknown _ _ no-unknown (λ j. answered net (answer_in net s j party))
    (λ j. answered-plan s j party (answer_in net s j party)) told)
step-plans net s (command.Cancel number) reply s' told =
    inl (by-option (booking_numbered s.bookings number) s s' reply unknown _ (λ booking. after_cancellation net s number) no-unknown
    (λ b. not-told _ (λ v e. cc) (λ e. cc)) (λ b. refl) told)
step-plans net s (command.Reoptimise k) reply s' told = in-period net (lacks_period net k) s k reply s' told
step-plans net s (command.Leg name) reply s' told =
    inl (by-option (leg_named net name) s s' reply unknown _ (λ i. s) no-unknown (λ i. not-told _ (λ v e. cc) (λ e. cc)) (λ i. refl) told)
step-plans net s command.Hindsight reply s' told = inl (record { plan = same-state s s' told.1; none = looks net s reply told.0 })
step-plans net s command.Plan reply s' told = inl (keeps s s' reply _ (not-told _ (λ v e. cc) (λ e. cc)) told.0 (same-state s s' told.1))
step-plans net s command.Bad reply s' told = inl (keeps s s' reply bad (not-told bad (λ v e. cc) (λ e. cc)) told.0 (same-state s s' told.1))

-- the mode stays
same-mode : (net : NetworkValue) (s : SeatState) (c : Command) (reply : Reply) (s' : SeatState) → Keeps s reply s' ⊎ Plans net s c reply s'
    → s'.plan.mode ≡ s.plan.mode
same-mode net s c reply s' (inl stays) = ap (λ (plan : PlanValue). plan.mode) stays.plan
same-mode net s c reply s' (inr made) = made.for.mode_is

-- the plan in force after a run is that of the last line that was answered so: for the seats left when the line came, and from
-- its period on
record IsOfLastLine (net : NetworkValue) (s : SeatState) (commands : List Command) (replies : List Reply) (s' : SeatState) : Type 0 where
  before : List Command
  period : ℕ
  after : List Command
  its_line : commands ≡ before ++ command.Reoptimise period ∷ after
  replies_before : List Reply
  replies_after : List Reply
  its_reply : replies ≡ replies_before ++ optimised_at (value_of net s'.plan) ∷ replies_after
  when : SeatState
  came : Run net s before replies_before when
  plan_for : IsPlanFor net s.plan.mode (seats_left net when.bookings) period s'.plan
  last : NoneTellsOfPlan replies_after

-- after each run it is that, or no line was answered so, and it is the plan from before the run
last-line : (net : NetworkValue) (s s' : SeatState) (commands : List Command) (replies : List Reply) → Run net s commands replies s'
    → ((s'.plan ≡ s.plan) × NoneTellsOfPlan replies) ⊎ IsOfLastLine net s commands replies s'
last-line net s s' [] [] run = inl (same-state s s' run, All-nil (λ reply. TellsOfPlan reply → ⊥))
last-line net s s' [] (reply ∷ replies) run = absurd run
last-line net s s' (c ∷ commands) [] run = absurd run
last-line net s s' (c ∷ commands) (reply ∷ replies) (mid, step, run) =
    by (step-plans net s c reply mid step) (last-line net mid s' commands replies run)
  where
    by : Keeps s reply mid ⊎ Plans net s c reply mid → ((s'.plan ≡ mid.plan) × NoneTellsOfPlan replies)
        ⊎ IsOfLastLine net mid commands replies s'
        → ((s'.plan ≡ s.plan) × NoneTellsOfPlan (reply ∷ replies)) ⊎ IsOfLastLine net s (c ∷ commands) (reply ∷ replies) s'
    by (inl stays) (inl (same, none)) = inl (same ∙ stays.plan, All-cons (λ reply. TellsOfPlan reply → ⊥) reply replies stays.none none)
    by (inr made) (inl (same, none)) = inr (record {
      before = [];
      period = made.period;
      after = commands;
      its_line = ap (λ (first : Command). first ∷ commands) made.line;
      replies_before = [];
      replies_after = replies;
      its_reply = ap (λ (first : Reply). first ∷ replies) (made.told ∙ ap (λ (plan : PlanValue). optimised_at (value_of net plan))
          (sym same));
      when = s;
      came = refl;
      plan_for = subst (λ (plan : PlanValue). IsPlanFor net s.plan.mode (seats_left net s.bookings) made.period plan) (sym same) made.for;
      last = none;
    })
    by first (inr found) = inr (record {
      before = c ∷ found.before;
      period = found.period;
      after = found.after;
      its_line = ap (λ (more : List Command). c ∷ more) found.its_line;
      replies_before = reply ∷ found.replies_before;
      replies_after = found.replies_after;
      its_reply = ap (λ (more : List Reply). reply ∷ more) found.its_reply;
      when = found.when;
      came = (mid, step, found.came);
      plan_for = subst (λ (m : Mode). IsPlanFor net m (seats_left net found.when.bookings) found.period s'.plan)
          (same-mode net s c reply mid first) found.plan_for;
      last = found.last;
    })

-- from a state with an opening plan on, as it is printed
module _ (net : NetworkValue) (m : Mode) (s : SeatState) (commands : List Command) (replies : List Reply) (mid : SeatState)
    (reply : Reply) (prices : Certificate)
    (opens : IsOpeningPlan net m s.plan) (has : mid.plan.certificate ≡ Some prices)
    (certifies : Certifies size_limit (program_at net mid.plan.left mid.plan.period) prices)
    (printed : reply ≡ plan_told (text_of_plan net m mid.plan.period (Some prices))) where
  prints : (left : List ℕ) (period : ℕ) → mid.plan.left ≡ left → mid.plan.period ≡ period
      → IsPlannedFor net s commands replies prices left period
      → PrintsOptimalPrices net m s commands replies reply
  prints left period left_is period_is planned = record {
    left = left;
    period = period;
    prices = prices;
    planned_for = planned;
    printed = subst (λ (k : ℕ). reply ≡ plan_told (text_of_plan net m k (Some prices))) period_is printed;
    optimal = subst (λ (k : ℕ). Certifies size_limit (program_at net left k) prices) period_is
        (subst (λ (l : List ℕ). Certifies size_limit (program_at net l mid.plan.period) prices) left_is certifies);
  }

  by-line : ((mid.plan ≡ s.plan) × NoneTellsOfPlan replies) ⊎ IsOfLastLine net s commands replies mid
      → PrintsOptimalPrices net m s commands replies reply
  by-line (inl (same, none)) =
      prints (inventory_of net).authorised 1 (ap (λ (p : PlanValue). p.left) same ∙ opens.left_is)
      (ap (λ (p : PlanValue). p.period) same ∙ opens.period_is) (at_opening none)
  by-line (inr found) =
      let told : optimised_at (value_of net mid.plan) ≡ optimised (mean_value net.histories prices) =
      ap (λ (c : Option Certificate). optimised_at (option_map (mean_value net.histories) c)) has in
      prints (seats_left net found.when.bookings) found.period found.plan_for.left_is found.plan_for.period_is
      (at_line found.period found.when (record {
        before = found.before;
        after = found.after;
        line = found.its_line;
        replies_before = found.replies_before;
        replies_after = found.replies_after;
        answered = found.its_reply ∙ ap (λ (r : Reply). found.replies_before ++ r ∷ found.replies_after) told;
        came = found.came;
        last = found.last;
      }))

pub printed-from : PrintedFromOpeningPlans
printed-from net m s commands replies mid after reply is solves opens run step =
    let first = plans-stay_optimal.0 net m s.plan is opens in
    let planned = plans-stay_optimal.1 net m s mid commands replies is
    (record { mode_is = first.mode_is; planned = first.planned; optimal = first.optimal }) run in
    let (prices, has, certifies) = planned.optimal solves in
    by-line net m s commands replies mid reply prices opens has certifies
    (step.0 ∙ ap (λ (its : Mode). plan_told (text_of_plan net its mid.plan.period mid.plan.certificate)) planned.mode_is
    ∙ ap (λ (its : Option Certificate). plan_told (text_of_plan net m mid.plan.period its)) has)
    (last-line net s mid commands replies run)

pub printed-optimal : PrintedPricesAreOptimal
printed-optimal net m plan commands replies mid after reply is solves opens run step =
    printed-from net m (opening plan) commands replies mid after reply is solves opens run step
