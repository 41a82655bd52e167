-- One line of a session: the reply, and what is remembered after it.
use Rattle.std.specs.Prelude.{ℕ, ℤ, ◌≡◌, ◌≢◌, Bool, MatchOption, not}
use Rattle.std.specs.Int.{is_in_range}
use Rattle.std.specs.Bool.{MatchBool}
use Rattle.nrm_fraction.specs.Fraction.{Fraction}
use Rattle.nrm_model.specs.Inventory.{inventory_of}
use Rattle.nrm_model.specs.Network.{NetworkValue, leg_named, product_named}
use Rattle.nrm_model.specs.declared.mode.Mode.TheVariants as mode
use Rattle.nrm_dlp.specs.Hindsight.{HindsightOverflows, IsHindsight}
use Rattle.nrm_book.specs.Bookings.{booking_numbered, revenue_of}
use Rattle.nrm_hindsight.specs.Requests.{tallies_of}
use Rattle.nrm_plan.specs.Plans.{IsPlanFor, PlanOverflows, PlanValue, value_of}
use Rattle.nrm_control.specs.Refunds.{refund_of}
use Rattle.nrm_control.specs.State.{SeatState, answer_in, after_request, after_cancellation, seats_left, with_plan}
use Rattle.nrm_report.specs.Texts.{leg_text, plan_text}
use Rattle.nrm_stream.specs.declared.command.Command.{Command}
use Rattle.nrm_stream.specs.declared.command.Command.TheVariants as command
use Rattle.nrm_session.specs.Replies.{Reply, bad, unknown, cancelled, overflow, memory, hindsight_told, leg_told, plan_told, optimised_at}
use Rattle.nrm_session.specs.Replies.{reply_to}

-- this reply, and all is remembered as it was
abbrev pub Gives : Reply → Reply → SeatState → SeatState → Type 0
Gives expected reply s s' = (reply ≡ expected) × (s' ≡ s)

-- A network is optimised again, at the seats left and from this period on: the new plan is in force, and its mean value is told; or the
-- linear program is Large, and nothing changes; or memory runs out where a linear program is solved, and nothing changes. That is the one
-- reply which is free, here and at a line of hindsight.
pub data Reoptimises (net : NetworkValue) (s : SeatState) (period : ℕ) : Reply → SeatState → Type 0 where
  optimises : (plan : PlanValue) → IsPlanFor net s.plan.mode (seats_left net s.bookings) period plan
      → Reoptimises net s period (optimised_at (value_of net plan)) (with_plan s plan)
  overflows : (n : ℕ) (number : ℤ) → PlanOverflows net s.plan.mode (seats_left net s.bookings) period n number
      → Reoptimises net s period overflow s
  runs_out_of_memory : s.plan.mode ≢ mode.FirstCome → Reoptimises net s period memory s

-- A line of hindsight: its value at the tallies of all requests so far, the revenue of the bookings that stand, and the sum withheld;
-- or its linear program is Large; or memory runs out.
pub data LooksBack (net : NetworkValue) (s : SeatState) : Reply → Type 0 where
  tells : (value : Fraction) → IsHindsight net (tallies_of net s.requests) value
      → LooksBack net s (hindsight_told value (revenue_of (inventory_of net) s.bookings) s.withheld)
  is_large : (n : ℕ) (number : ℤ) → HindsightOverflows net (tallies_of net s.requests) n number → LooksBack net s overflow
  lacks_memory : LooksBack net s memory

-- a period that the network doesn't have
abbrev pub lacks_period : NetworkValue → ℕ → Bool
lacks_period net period = not (is_in_range 1 net.periods period)

-- From s, the controller may give this reply to the command and go on to s'.
abbrev pub Step : NetworkValue → SeatState → Command → Reply → SeatState → Type 0
Step net s (command.Book name party) reply s' =
    MatchOption (product_named net name) (Gives unknown reply s s')
    (λ product. (reply ≡ reply_to net (answer_in net s product party)) × (s' ≡ after_request net s product party))
Step net s (command.Cancel number) reply s' =
    MatchOption (booking_numbered s.bookings number) (Gives unknown reply s s')
    (λ booking. (reply ≡ cancelled number (refund_of net booking)) × (s' ≡ after_cancellation net s number))
Step net s (command.Reoptimise period) reply s' =
    MatchBool (lacks_period net period) (Gives unknown reply s s') (Reoptimises net s period reply s')
Step net s (command.Leg name) reply s' =
    MatchOption (leg_named net name) (Gives unknown reply s s') (λ leg. Gives (leg_told (leg_text net s.bookings leg)) reply s s')
Step net s command.Hindsight reply s' = LooksBack net s reply × (s' ≡ s)
Step net s command.Plan reply s' = Gives (plan_told (plan_text net s.plan)) reply s s'
Step net s command.Bad reply s' = Gives bad reply s s'
