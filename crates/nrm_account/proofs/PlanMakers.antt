-- The line that an account tells as the one that made its plan did make it.
use Rattle.std.proofs.Common.{ℕ, ◌≡◌, ◌∙◌, ◌+◌, ◌⊎◌, Bool, true, false, List, [], ◌∷◌, ◌++◌, length, Option, None, Some, MatchOption, inl, inr, refl, sym, ap, subst, arith}
use Rattle.std.specs.Bool.{MatchBool}
use Rattle.nrm_fraction.specs.Fraction.{Fraction}
use Rattle.nrm_model.specs.Network.{NetworkValue, leg_named, product_named}
use Rattle.nrm_book.specs.Bookings.{booking_numbered}
use Rattle.nrm_book.specs.declared.booking.Booking.{Booking}
use Rattle.nrm_plan.specs.Plans.{value_of}
use Rattle.nrm_control.specs.Refunds.{refund_of}
use Rattle.nrm_control.specs.State.{SeatState, after_answer, after_cancellation, after_request, answer_in}
use Rattle.nrm_control.specs.declared.answer.Answer.{Answer}
use Rattle.nrm_control.specs.declared.answer.Answer.TheVariants as answer
use Rattle.nrm_report.specs.Texts.{leg_text, plan_text}
use Rattle.nrm_stream.specs.declared.command.Command.{Command}
use Rattle.nrm_stream.specs.declared.command.Command.TheVariants as command
use Rattle.nrm_session.specs.Replies.{Reply, bad, cancelled, leg_told, optimised_at, plan_told, reply_to, unknown}
use Rattle.nrm_session.specs.Run.{Run}
use Rattle.nrm_session.specs.Step.{Gives, LooksBack, Reoptimises, Step, is_large, lacks_memory, lacks_period, optimises, overflows, runs_out_of_memory, tells}
use Rattle.nrm_account.specs.PlannedBy.{IsPlannedBy, PlannedByThatLine, by_line, by_opening}
use Rattle.nrm_account.specs.Readings.{planned_after, planned_by}

-- ---- one line
-- a reply after which the plan was made by the line that it was made by before, and one after which the line itself made it
abbrev KeepsMaker : Reply → Type 0
KeepsMaker reply = (line planned : ℕ) → planned_by reply line planned ≡ planned

abbrev IsMaker : Reply → Type 0
IsMaker reply = (line planned : ℕ) → planned_by reply line planned ≡ line

-- a line keeps the plan and the line that made it, or it is a reoptimisation that made one
abbrev KeepsOrMakes : SeatState → Command → Reply → SeatState → Type 0
KeepsOrMakes s c reply s' =
    (KeepsMaker reply × (s'.plan ≡ s.plan)) ⊎ ((period : ℕ) × (c ≡ command.Reoptimise period) × IsMaker reply)

answered-keeps : (net : NetworkValue) (given : Answer) → KeepsMaker (reply_to net given)
answered-keeps net (answer.Sold number) = λ line planned. refl
answered-keeps net (answer.Leg leg) = λ line planned. refl
answered-keeps net answer.Fare = λ line planned. refl

answered-plan : (s : SeatState) (product party : ℕ) (given : Answer) → (after_answer s product party given).plan ≡ s.plan
answered-plan s product party (answer.Sold number) = refl
answered-plan s product party (answer.Leg leg) = refl
answered-plan s product party answer.Fare = refl

looked-keeps : (net : NetworkValue) (s : SeatState) (reply : Reply) → LooksBack net s reply → KeepsMaker reply
looked-keeps net s reply (tells value is) = λ line planned. refl
looked-keeps net s reply (is_large n number large) = λ line planned. refl
looked-keeps net s reply lacks_memory = λ line planned. refl

optimised-makes : (value : Option Fraction) → IsMaker (optimised_at value)
optimised-makes None = λ line planned. refl
optimised-makes (Some value) = λ line planned. refl

-- a reply that is given, in a state of the same plan
kept : (expected : Reply) (s : SeatState) (c : Command) (reply : Reply) (s' after : SeatState) → KeepsMaker expected → after.plan ≡ s.plan
    → reply ≡ expected → s' ≡ after → KeepsOrMakes s c reply s'
kept expected s c reply s' after keeps plan is same =
    inl (subst KeepsMaker (sym is) keeps, ap (λ (state : SeatState). state.plan) same ∙ plan)

again : (net : NetworkValue) (s : SeatState) (period : ℕ) (reply : Reply) (s' : SeatState) → Reoptimises net s period reply s'
    → KeepsOrMakes s (command.Reoptimise period) reply s'
again net s period reply s' (optimises plan is) = inr (period, refl, optimised-makes (value_of net plan))
again net s period reply s' (overflows n number large) = inl (λ line planned. refl, refl)
again net s period reply s' (runs_out_of_memory solves) = inl (λ line planned. refl, refl)

keeps-or-makes : (net : NetworkValue) (s : SeatState) (c : Command) (reply : Reply) (s' : SeatState) → Step net s c reply s'
    → KeepsOrMakes s c reply s'
keeps-or-makes net s (command.Book name party) reply s' step = by (product_named net name) step
  where
    by : (found : Option ℕ) → MatchOption found (Gives unknown reply s s') (λ product. (reply ≡ reply_to net (answer_in net s product party)) × (s' ≡ after_request net s product party))
        → KeepsOrMakes s (command.Book name party) reply s'
    by None (is, same) = kept unknown s (command.Book name party) reply s' s (λ line planned. refl) refl is same
    by (Some product) (is, same) =
        let given : Answer = answer_in net s product party in
        kept (reply_to net given) s (command.Book name party) reply s' (after_answer s product party given) (answered-keeps net given)
        (answered-plan s product party given) is same
keeps-or-makes net s (command.Cancel number) reply s' step = by (booking_numbered s.bookings number) step
  where
    by : (found : Option Booking) → MatchOption found (Gives unknown reply s s') (λ booking. (reply ≡ cancelled number (refund_of net booking)) × (s' ≡ after_cancellation net s number))
        → KeepsOrMakes s (command.Cancel number) reply s'
    by None (is, same) = kept unknown s (command.Cancel number) reply s' s (λ line planned. refl) refl is same
    by (Some booking) (is, same) =
        kept (cancelled number (refund_of net booking)) s (command.Cancel number) reply s' (after_cancellation net s number) (λ line planned. refl) refl
        is same
keeps-or-makes net s (command.Reoptimise period) reply s' step = by (lacks_period net period) step
  where
    by : (beyond : Bool) → MatchBool beyond (Gives unknown reply s s') (Reoptimises net s period reply s')
        → KeepsOrMakes s (command.Reoptimise period) reply s'
    by true (is, same) = kept unknown s (command.Reoptimise period) reply s' s (λ line planned. refl) refl is same
    by false made = again net s period reply s' made
keeps-or-makes net s (command.Leg name) reply s' step = by (leg_named net name) step
  where
    by : (found : Option ℕ) → MatchOption found (Gives unknown reply s s') (λ leg. Gives (leg_told (leg_text net s.bookings leg)) reply s s')
        → KeepsOrMakes s (command.Leg name) reply s'
    by None (is, same) = kept unknown s (command.Leg name) reply s' s (λ line planned. refl) refl is same
    by (Some leg) (is, same) = kept (leg_told (leg_text net s.bookings leg)) s (command.Leg name) reply s' s (λ line planned. refl) refl is same
keeps-or-makes net s command.Hindsight reply s' (looks, same) =
    inl (looked-keeps net s reply looks, ap (λ (state : SeatState). state.plan) same)
keeps-or-makes net s command.Plan reply s' (is, same) =
    kept (plan_told (plan_text net s.plan)) s command.Plan reply s' s (λ line planned. refl) refl is same
keeps-or-makes net s command.Bad reply s' (is, same) = kept bad s command.Bad reply s' s (λ line planned. refl) refl is same

-- ---- a run
-- a reoptimisation of a run, whose first line has a number, made the plan of its last state
record MadeIn (net : NetworkValue) (s : SeatState) (commands : List Command) (state : SeatState) (line maker : ℕ) : Type 0 where
  first : List Command
  rest : List Command
  period : ℕ
  replies : List Reply
  reply : Reply
  mid : SeatState
  made : SeatState
  commands_are : commands ≡ first ++ command.Reoptimise period ∷ rest
  run : Run net s first replies mid
  step : Step net mid (command.Reoptimise period) reply made
  plan : state.plan ≡ made.plan
  counted : maker ≡ length first + line

-- so it is; or the run kept the plan that it began with, and so the line that made it
abbrev IsMadeBy : NetworkValue → SeatState → List Command → SeatState → ℕ → ℕ → ℕ → Type 0
IsMadeBy net s commands state line planned maker =
    ((maker ≡ planned) × (state.plan ≡ s.plan)) ⊎ MadeIn net s commands state line maker

module _ (net : NetworkValue) (s next : SeatState) (c : Command) (commands : List Command) (reply : Reply) (state : SeatState) (line planned maker : ℕ)
    (step : Step net s c reply next) where
  behind : KeepsOrMakes s c reply next → IsMadeBy net next commands state (line + 1) (planned_by reply line planned) maker
      → IsMadeBy net s (c ∷ commands) state line planned maker
  behind either (inr later) = inr (record {
    first = c ∷ later.first;
    rest = later.rest;
    period = later.period;
    replies = reply ∷ later.replies;
    reply = later.reply;
    mid = later.mid;
    made = later.made;
    commands_are = ap (λ (more : List Command). c ∷ more) later.commands_are;
    run = (next, step, later.run);
    step = later.step;
    plan = later.plan;
    counted = omega (arith, later.counted);
  })
  behind (inl (keeps, plan)) (inl (is, same)) = inl (is ∙ keeps line planned, same ∙ plan)
  behind (inr (period, reoptimises, makes)) (inl (is, same)) = inr (record {
    first = [];
    rest = commands;
    period = period;
    replies = [];
    reply = reply;
    mid = s;
    made = next;
    commands_are = ap (λ (k : Command). k ∷ commands) reoptimises;
    run = refl;
    step = subst (λ (k : Command). Step net s k reply next) reoptimises step;
    plan = same;
    counted = omega (arith, is, makes line planned);
  })

run-made : (net : NetworkValue) (s : SeatState) (commands : List Command) (replies : List Reply) (state : SeatState) (line planned : ℕ)
    → Run net s commands replies state → IsMadeBy net s commands state line planned (planned_after replies line planned)
run-made net s [] [] state line planned run = inl (refl, ap (λ (at : SeatState). at.plan) run)
run-made net s [] (reply ∷ replies) state line planned run = absurd run
run-made net s (c ∷ commands) [] state line planned run = absurd run
run-made net s (c ∷ commands) (reply ∷ replies) state line planned (next, step, run) =
    behind net s next c commands reply state line planned (planned_after replies (line + 1) (planned_by reply line planned)) step
    (keeps-or-makes net s c reply next step) (run-made net next commands replies state (line + 1) (planned_by reply line planned) run)

-- from the opening, and from line 1
from-opening : (net : NetworkValue) (start : SeatState) (commands : List Command) (state : SeatState) (maker : ℕ)
    → IsMadeBy net start commands state 1 0 maker → IsPlannedBy net start commands state maker
from-opening net start commands state maker (inl (is, plan)) = subst (IsPlannedBy net start commands state) (sym is) (by_opening plan)
from-opening net start commands state maker (inr m) =
    subst (IsPlannedBy net start commands state) (sym m.counted)
    (by_line m.first m.rest m.period m.replies m.reply m.mid m.made m.commands_are m.run m.step m.plan)

pub planned-by_that_line : PlannedByThatLine
planned-by_that_line net start asked commands text account =
    from-opening net start account.before account.state (planned_after account.replies 1 0)
    (run-made net start account.before account.replies account.state 1 0 account.run)
