-- The plan in force is one of the network, in every state of a run.
use Rattle.std.proofs.Common.{ℕ, ◌≡◌, ◌∙◌, Bool, true, false, List, [], ◌∷◌, Option, Some, None, MatchOption, ap, refl, sym, subst}
use Rattle.std.specs.Bool.{MatchBool}
use Rattle.nrm_model.specs.Limits.{IsNetwork}
use Rattle.nrm_model.specs.Network.{NetworkValue, leg_named, product_named}
use Rattle.nrm_model.specs.declared.mode.Mode.{Mode}
use Rattle.nrm_book.specs.Bookings.{booking_numbered}
use Rattle.nrm_plan.specs.Plans.{IsPlanOf, PlanValue}
use Rattle.nrm_plan.proofs.Plans.{optimal}
use Rattle.nrm_control.specs.State.{SeatState, after_answer, after_cancellation, answer_in, opening}
use Rattle.nrm_control.specs.declared.answer.Answer.{Answer}
use Rattle.nrm_control.specs.declared.answer.Answer.TheVariants as answer
use Rattle.nrm_stream.specs.declared.command.Command.{Command}
use Rattle.nrm_stream.specs.declared.command.Command.TheVariants as command
use Rattle.nrm_session.specs.Replies.{Reply, unknown}
use Rattle.nrm_session.specs.Step.{Gives, Reoptimises, Step, optimises, overflows, runs_out_of_memory, lacks_period}
use Rattle.nrm_session.specs.Run.{Run}
use Rattle.nrm_session.specs.Laws.{IsPlanned, PlansStayOptimal}

module _ (net : NetworkValue) (is : IsNetwork net) (m : Mode) where
  planned-so : (s : SeatState) → s.plan.mode ≡ m → IsPlanOf net s.plan → IsPlanned net m s
  planned-so s mode_is of = record {
    mode_is = mode_is;
    planned = of;
    optimal = λ solves. optimal net s.plan is of (λ e. solves (sym mode_is ∙ e));
  }

  -- what keeps the plan keeps that
  same-plan : (s s' : SeatState) → IsPlanned net m s → s'.plan ≡ s.plan → IsPlanned net m s'
  same-plan s s' planned same =
      planned-so s' (ap (λ (plan : PlanValue). plan.mode) same ∙ planned.mode_is)
      (subst (λ (plan : PlanValue). IsPlanOf net plan) (sym same) planned.planned)

  stays : (s s' : SeatState) → IsPlanned net m s → s' ≡ s → IsPlanned net m s'
  stays s s' planned same = same-plan s s' planned (ap (λ (state : SeatState). state.plan) same)

  answered-plan : (s : SeatState) (j party : ℕ) (given : Answer) → (after_answer s j party given).plan ≡ s.plan
  answered-plan s j party (answer.Sold number) = refl
  answered-plan s j party (answer.Leg i) = refl
  answered-plan s j party answer.Fare = refl

  -- by the cases of an option, none of which changes the plan
  by-option : {X : Type 0} (o : Option X) (s s' : SeatState) (reply none : Reply) (some : X → Reply) (changed : X → SeatState)
      → IsPlanned net m s → ((x : X) → (changed x).plan ≡ s.plan)
      → MatchOption o ((reply ≡ none) × (s' ≡ s)) (λ x. (reply ≡ some x) × (s' ≡ changed x)) → IsPlanned net m s'
  by-option None s s' reply none some changed planned same told = stays s s' planned told.1
  by-option (Some x) s s' reply none some changed planned same told =
      same-plan s s' planned (ap (λ (state : SeatState). state.plan) told.1 ∙ same x)

  again-keeps : (s : SeatState) (k : ℕ) (reply : Reply) (s' : SeatState) → IsPlanned net m s → Reoptimises net s k reply s'
      → IsPlanned net m s'
  again-keeps s k reply s' planned (optimises plan for) = planned-so s' (for.mode_is ∙ planned.mode_is) for.planned
  again-keeps s k reply s' planned (overflows n number large) = planned
  again-keeps s k reply s' planned (runs_out_of_memory solves) = planned

  period-keeps : (beyond : Bool) (s : SeatState) (k : ℕ) (reply : Reply) (s' : SeatState) → IsPlanned net m s
      → MatchBool beyond (Gives unknown reply s s') (Reoptimises net s k reply s') → IsPlanned net m s'
  period-keeps true s k reply s' planned told = stays s s' planned told.1
  period-keeps false s k reply s' planned made = again-keeps s k reply s' planned made

  step-keeps : (s : SeatState) (c : Command) (reply : Reply) (s' : SeatState) → IsPlanned net m s → Step net s c reply s'
      → IsPlanned net m s'
  step-keeps s (command.Book name party) reply s' planned told =
      by-option (product_named net name) s s' reply _ _ _ planned (λ j. answered-plan s j party (answer_in net s j party)) told
  step-keeps s (command.Cancel number) reply s' planned told =
      by-option (booking_numbered s.bookings number) s s' reply _ _ (λ booking. after_cancellation net s number) planned (λ booking. refl) told
  step-keeps s (command.Reoptimise k) reply s' planned told = period-keeps (lacks_period net k) s k reply s' planned told
  step-keeps s (command.Leg name) reply s' planned told = by-option (leg_named net name) s s' reply _ _ (λ i. s) planned (λ i. refl) told
  step-keeps s command.Hindsight reply s' planned told = stays s s' planned told.1
  step-keeps s command.Plan reply s' planned told = stays s s' planned told.1
  step-keeps s command.Bad reply s' planned told = stays s s' planned told.1

  run-keeps : (s s' : SeatState) (commands : List Command) (replies : List Reply) → IsPlanned net m s → Run net s commands replies s'
      → IsPlanned net m s'
  run-keeps s s' [] [] planned run = stays s s' planned run
  run-keeps s s' [] (reply ∷ replies) planned run = absurd run
  run-keeps s s' (c ∷ commands) [] planned run = absurd run
  run-keeps s s' (c ∷ commands) (reply ∷ replies) planned (mid, step, run) =
      run-keeps mid s' commands replies (step-keeps s c reply mid planned step) run

pub plans-stay_optimal : PlansStayOptimal
plans-stay_optimal = (
  (λ net m plan is for. planned-so net is m (opening plan) for.mode_is for.planned),
  (λ net m s s' commands replies is planned run. run-keeps net is m s s' commands replies planned run),
)
