-- Each list of commands has a run in which memory suffices.
use Rattle.std.proofs.Common.{ℕ, ℤ, ◌≡◌, ◌≢◌, ◌⊎◌, Bool, true, false, [], ◌∷◌, Option, Some, None, MatchOption, inl, inr, refl}
use Rattle.std.specs.Bool.{MatchBool}
use Rattle.std.proofs.lemmas.List.Elements.{All-cons, All-nil}
use Rattle.nrm_fraction.specs.Fraction.{Fraction}
use Rattle.nrm_model.specs.Inventory.{inventory_of}
use Rattle.nrm_model.specs.Network.{NetworkValue, leg_named, product_named}
use Rattle.nrm_dlp.specs.Hindsight.{HindsightOverflows, IsHindsight}
use Rattle.nrm_dlp.proofs.Hindsights.{has-a-hindsight}
use Rattle.nrm_book.specs.Bookings.{booking_numbered, revenue_of}
use Rattle.nrm_hindsight.specs.Requests.{tallies_of}
use Rattle.nrm_plan.specs.Plans.{IsPlanFor, PlanOverflows, PlanValue, value_of}
use Rattle.nrm_plan.proofs.Plans.{has-a-plan}
use Rattle.nrm_control.specs.State.{SeatState, answer_in, seats_left, with_plan}
use Rattle.nrm_control.specs.declared.answer.Answer.{Answer}
use Rattle.nrm_control.specs.declared.answer.Answer.TheVariants as answer
use Rattle.nrm_control.proofs.Inventories.{are-seats-left}
use Rattle.nrm_stream.specs.declared.command.Command.{Command}
use Rattle.nrm_stream.specs.declared.command.Command.TheVariants as command
use Rattle.nrm_session.specs.Replies.{Reply, bad, hindsight_told, memory, optimised_at, overflow, reply_to, unknown}
use Rattle.nrm_session.specs.Step.{Gives, LooksBack, Reoptimises, Step, is_large, lacks_period, optimises, overflows, tells}
use Rattle.std.specs.Int.{IsInRange}
use Rattle.nrm_session.proofs.Periods.{had}
use Rattle.nrm_session.specs.Laws.{EachListHasARun}

-- there is a reply and a state for each case of an option
for-option : {X : Type 0} (o : Option X) (none : Reply) (some : X → Reply) (kept : SeatState) (changed : X → SeatState) → none ≢ memory
    → ((x : X) → some x ≢ memory)
    → (reply : Reply) × (s' : SeatState) × MatchOption o ((reply ≡ none) × (s' ≡ kept)) (λ x. (reply ≡ some x) × (s' ≡ changed x))
    × (reply ≢ memory)
for-option None none some kept changed one other = (none, kept, (refl, refl), one)
for-option (Some x) none some kept changed one other = (some x, changed x, (refl, refl), other x)

-- no request runs out of memory, and no plan that is made
answered : (net : NetworkValue) (given : Answer) → reply_to net given ≢ memory
answered net (answer.Sold number) = λ e. cc
answered net (answer.Leg i) = λ e. cc
answered net answer.Fare = λ e. cc

planned : (o : Option Fraction) → optimised_at o ≢ memory
planned None = λ e. cc
planned (Some value) = λ e. cc

module _ (net : NetworkValue) (s : SeatState) (k : ℕ) where
  again : IsInRange 1 net.periods k → (reply : Reply) × (s' : SeatState) × Reoptimises net s k reply s' × (reply ≢ memory)
  again within = by (has-a-plan net s.plan.mode (seats_left net s.bookings) k (are-seats-left net s.bookings) within)
    where
      by : ((plan : PlanValue) × IsPlanFor net s.plan.mode (seats_left net s.bookings) k plan)
          ⊎ ((n : ℕ) × (number : ℤ) × PlanOverflows net s.plan.mode (seats_left net s.bookings) k n number)
          → (reply : Reply) × (s' : SeatState) × Reoptimises net s k reply s' × (reply ≢ memory)
      by (inl (plan, for)) = (optimised_at (value_of net plan), with_plan s plan, optimises plan for, planned (value_of net plan))
      by (inr (n, number, large)) = (overflow, s, overflows n number large, λ e. cc)

  in-period : (beyond : Bool) → lacks_period net k ≡ beyond → (reply : Reply) × (s' : SeatState)
      × MatchBool beyond (Gives unknown reply s s') (Reoptimises net s k reply s') × (reply ≢ memory)
  in-period true is = (unknown, s, (refl, refl), λ e. cc)
  in-period false is = again (had net k is)

look-back : (net : NetworkValue) (s : SeatState) → (reply : Reply) × LooksBack net s reply × (reply ≢ memory)
look-back net s = by (has-a-hindsight net (tallies_of net s.requests))
  where
    by : ((value : Fraction) × IsHindsight net (tallies_of net s.requests) value)
        ⊎ ((n : ℕ) × (number : ℤ) × HindsightOverflows net (tallies_of net s.requests) n number) → (reply : Reply) × LooksBack net s reply
        × (reply ≢ memory)
    by (inl (value, is)) = (hindsight_told value (revenue_of (inventory_of net) s.bookings) s.withheld, tells value is, λ e. cc)
    by (inr (n, number, large)) = (overflow, is_large n number large, λ e. cc)

step : (net : NetworkValue) (s : SeatState) (c : Command) → (reply : Reply) × (s' : SeatState) × Step net s c reply s' × (reply ≢ memory)
step net s (command.Book name party) = for-option (product_named net name) _ _ _ _ (λ e. cc) (λ j. answered net (answer_in net s j party))
step net s (command.Cancel number) = for-option (booking_numbered s.bookings number) _ _ _ _ (λ e. cc) (λ booking e. cc)
step net s (command.Reoptimise k) = in-period net s k (lacks_period net k) refl
step net s (command.Leg name) = for-option (leg_named net name) _ _ _ _ (λ e. cc) (λ i e. cc)
step net s command.Hindsight = let (reply, looks, suffices) = look-back net s in (reply, s, (looks, refl), suffices)
step net s command.Plan = (_, s, (refl, refl), λ e. cc)
step net s command.Bad = (bad, s, (refl, refl), λ e. cc)

pub runs : EachListHasARun
runs net s [] = ([], s, refl, All-nil (λ (reply : Reply). reply ≢ memory))
runs net s (c ∷ commands) =
    let (reply, mid, first, one) = step net s c in
    let (replies, s', more, suffices) = runs net mid commands in
    (reply ∷ replies, s', (mid, first, more), All-cons (λ (reply : Reply). reply ≢ memory) reply replies one suffices)
