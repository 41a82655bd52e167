-- Accounts by hand: two legs of four and two authorised seats, a through product for 500, which gives all back, and a local one for 200.
use Rattle.std.specs.Prelude.{ℕ, ◌≡◌, pos, List, [], ◌∷◌, ◌++◌, codes, refl, Option, Some, None}
use Rattle.std.specs.Fmt.{digits}
use Rattle.nrm_fraction.specs.Fraction.{◌over◌, ◌*ᶠ◌, less, whole}
use Rattle.nrm_model.specs.Network.{NetworkValue}
use Rattle.nrm_model.specs.declared.mode.Mode.{Mode}
use Rattle.nrm_model.specs.declared.mode.Mode.TheVariants as mode
use Rattle.nrm_lp.specs.declared.certificate.Certificate.{Certificate}
use Rattle.nrm_plan.specs.Plans.{PlanValue}
use Rattle.nrm_control.specs.State.{SeatState}
use Rattle.nrm_stream.specs.declared.command.Command.TheVariants as command
use Rattle.nrm_session.specs.Replies.{bad, cancelled, hindsight_told, leg_told, memory, no_fare, no_leg, optimised, optimised_none, overflow, plan_told, sold, unknown}
use Rattle.nrm_account.specs.Readings.{planned_after}
use Rattle.nrm_account.specs.Texts.{account_text}

abbrev two_legs : NetworkValue
two_legs = record {
  histories = 2;
  periods = 2;
  legs = record { name = codes "AB"; seats = 5; authorised = 4; cuts = 300 ∷ [] } ∷ record { name = codes "BC"; seats = 3; authorised = 2; cuts = 400 ∷ [] } ∷ [];
  products = record { name = codes "THRU"; fare = 500; refund = 100; legs = 0 ∷ 1 ∷ [] } ∷ record { name = codes "LOC"; fare = 200; refund = 25; legs = 0 ∷ [] } ∷ [];
  demand = 1 ∷ 1 ∷ 2 ∷ 0 ∷ 2 ∷ 1 ∷ 1 ∷ 1 ∷ [];
}

abbrev prices : ℕ → ℕ → ℕ → Certificate
prices den first second = record { q = pos 1; x = pos 2 ∷ pos 2 ∷ []; den = pos den; p = pos first ∷ pos second ∷ []; value = pos 0 }

abbrev plan_in : Mode → Option Certificate → ℕ → PlanValue
plan_in m cert period = record { mode = m; period = period; left = 4 ∷ 2 ∷ []; certificate = cert; nests = None }

-- a seat of each product is sold
abbrev at : PlanValue → SeatState
at plan = record {
  plan = plan;
  bookings = record { number = 1; product = 0; party = 1 } ∷ record { number = 2; product = 1; party = 1 } ∷ [];
  next = 3;
  requests = [];
  withheld = 0;
}

-- the first request of all, which is sold
first_request : account_text two_legs 1 0 (record (at (plan_in mode.FirstCome None 1)) { bookings = []; next = 1 }) (command.Book (codes "THRU") 1) (sold 1)
    ≡ codes "line 1 book THRU 1\n"
    ++ codes "plan first opening period 1\n"
    ++ codes "product THRU fare 500 refund 100\n"
    ++ codes "leg AB authorised 4 sold 0 left 4 protected 0 needs 1 covers\n"
    ++ codes "leg BC authorised 2 sold 0 left 2 protected 0 needs 1 covers\n"
    ++ codes "largest 2 then no BC\n"
    ++ codes "answer ok 1\n"
unfolding digits
first_request = refl

-- first come, first served: the second leg is short by one, and is told behind one that covers
short_leg : account_text two_legs 3 0 (at (plan_in mode.FirstCome None 1)) (command.Book (codes "THRU") 2) (no_leg (codes "BC"))
    ≡ codes "line 3 book THRU 2\n"
    ++ codes "plan first opening period 1\n"
    ++ codes "product THRU fare 500 refund 100\n"
    ++ codes "leg AB authorised 4 sold 2 left 2 protected 0 needs 2 covers\n"
    ++ codes "leg BC authorised 2 sold 1 left 1 protected 0 needs 2 short 1\n"
    ++ codes "largest 1 then no BC\n"
    ++ codes "answer no BC\n"
unfolding digits
short_leg = refl

-- by bid prices: a fare that equals the sum is sold, by the plan that line 2 made
reaches : account_text two_legs 3 2 (at (plan_in mode.Bid (Some (prices 1 200 0)) 2)) (command.Book (codes "LOC") 2) (sold 3)
    ≡ codes "line 3 book LOC 2\n"
    ++ codes "plan bid line 2 period 2\n"
    ++ codes "product LOC fare 200 refund 25\n"
    ++ codes "leg AB authorised 4 sold 2 left 2 protected 0 needs 2 covers\n"
    ++ codes "price AB 200/1\n"
    ++ codes "sum 200/1 fare 200 reaches\n"
    ++ codes "largest 2 then no AB\n"
    ++ codes "answer ok 3\n"
unfolding digits ◌over◌
reaches = refl

-- it is below by half a unit, and no party would be sold
below : account_text two_legs 3 0 (at (plan_in mode.Bid (Some (prices 2 998 3)) 1)) (command.Book (codes "THRU") 1) no_fare
    ≡ codes "line 3 book THRU 1\n"
    ++ codes "plan bid opening period 1\n"
    ++ codes "product THRU fare 500 refund 100\n"
    ++ codes "leg AB authorised 4 sold 2 left 2 protected 0 needs 1 covers\n"
    ++ codes "leg BC authorised 2 sold 1 left 1 protected 0 needs 1 covers\n"
    ++ codes "price AB 499/1\n"
    ++ codes "price BC 3/2\n"
    ++ codes "sum 1001/2 fare 500 below 1/2\n"
    ++ codes "largest 0 then no fare\n"
    ++ codes "answer no fare\n"
unfolding digits ◌over◌
below = refl

-- where a leg is short there are no prices
no_prices : account_text two_legs 3 0 (at (plan_in mode.Bid (Some (prices 1 200 0)) 1)) (command.Book (codes "LOC") 3) (no_leg (codes "AB"))
    ≡ codes "line 3 book LOC 3\n"
    ++ codes "plan bid opening period 1\n"
    ++ codes "product LOC fare 200 refund 25\n"
    ++ codes "leg AB authorised 4 sold 2 left 2 protected 0 needs 3 short 1\n"
    ++ codes "largest 2 then no AB\n"
    ++ codes "answer no AB\n"
unfolding digits ◌over◌
no_prices = refl

-- under virtual nesting: THRU is in bucket 1 of AB, and two seats are enough for it in each history, from period 2 on one in half of them
protected : account_text two_legs 3 0 (at (plan_in mode.Davn (Some (prices 1 200 0)) 1)) (command.Book (codes "LOC") 2) (no_leg (codes "AB"))
    ≡ codes "line 3 book LOC 2\n"
    ++ codes "plan davn opening period 1\n"
    ++ codes "product LOC fare 200 refund 25\n"
    ++ codes "nest AB fare 200/1 bucket 2 of 2 below 300\n"
    ++ codes "enough AB seats 2 buckets 1 mean 500/1 next 200/1 histories 2 over 0\n"
    ++ codes "demand AB 2 2\n"
    ++ codes "leg AB authorised 4 sold 2 left 2 protected 2 needs 2 short 2\n"
    ++ codes "largest 0 then no AB\n"
    ++ codes "answer no AB\n"
unfolding digits ◌over◌ ◌*ᶠ◌ less whole
protected = refl

from_the_second_period : account_text two_legs 8 6 (at (plan_in mode.Davn (Some (prices 1 200 0)) 2)) (command.Book (codes "LOC") 1) (sold 3)
    ≡ codes "line 8 book LOC 1\n"
    ++ codes "plan davn line 6 period 2\n"
    ++ codes "product LOC fare 200 refund 25\n"
    ++ codes "nest AB fare 200/1 bucket 2 of 2 below 300\n"
    ++ codes "enough AB seats 1 buckets 1 mean 500/1 next 200/1 histories 2 over 0\n"
    ++ codes "demand AB 1 0\n"
    ++ codes "leg AB authorised 4 sold 2 left 2 protected 1 needs 1 covers\n"
    ++ codes "largest 1 then no AB\n"
    ++ codes "answer ok 3\n"
unfolding digits ◌over◌ ◌*ᶠ◌ less whole
from_the_second_period = refl

first_bucket : account_text two_legs 1 0 (at (plan_in mode.Davn (Some (prices 1 200 0)) 1)) (command.Book (codes "THRU") 1) (sold 3)
    ≡ codes "line 1 book THRU 1\n"
    ++ codes "plan davn opening period 1\n"
    ++ codes "product THRU fare 500 refund 100\n"
    ++ codes "nest AB fare 500/1 bucket 1 of 2 from 300\n"
    ++ codes "leg AB authorised 4 sold 2 left 2 protected 0 needs 1 covers\n"
    ++ codes "nest BC fare 300/1 bucket 2 of 2 below 400\n"
    ++ codes "leg BC authorised 2 sold 1 left 1 protected 0 needs 1 covers\n"
    ++ codes "largest 1 then no BC\n"
    ++ codes "answer ok 3\n"
unfolding digits ◌over◌ ◌*ᶠ◌ less whole
first_bucket = refl

-- the other lines
a_cancellation : account_text two_legs 5 0 (at (plan_in mode.FirstCome None 1)) (command.Cancel 2) (cancelled 2 50)
    ≡ codes "line 5 cancel 2\n"
    ++ codes "booking 2 product LOC party 1 fare 200 worth 200 refund 25\n"
    ++ codes "back 50 withheld 150\n"
    ++ codes "answer cancelled 2 50\n"
unfolding digits
a_cancellation = refl

an_optimisation : account_text two_legs 6 2 (at (plan_in mode.FirstCome None 1)) (command.Reoptimise 2) optimised_none
    ≡ codes "line 6 reoptimise 2\n"
    ++ codes "left AB 2\n"
    ++ codes "left BC 1\n"
    ++ codes "answer optimised none\n"
unfolding digits
an_optimisation = refl

unknown_period : account_text two_legs 6 2 (at (plan_in mode.FirstCome None 1)) (command.Reoptimise 3) unknown ≡ codes "line 6 reoptimise 3\nanswer unknown\n"
unfolding digits
unknown_period = refl

unknown_product : account_text two_legs 6 2 (at (plan_in mode.FirstCome None 1)) (command.Book (codes "X") 1) unknown ≡ codes "line 6 book X 1\nanswer unknown\n"
unfolding digits
unknown_product = refl

dead_number : account_text two_legs 6 2 (at (plan_in mode.FirstCome None 1)) (command.Cancel 9) unknown ≡ codes "line 6 cancel 9\nanswer unknown\n"
unfolding digits
dead_number = refl

a_leg : account_text two_legs 7 0 (at (plan_in mode.FirstCome None 1)) (command.Leg (codes "AB")) (leg_told (codes "x\n")) ≡ codes "line 7 leg AB\n"
unfolding digits
a_leg = refl

unknown_leg : account_text two_legs 7 0 (at (plan_in mode.FirstCome None 1)) (command.Leg (codes "NONE")) unknown ≡ codes "line 7 leg NONE\nanswer unknown\n"
unfolding digits
unknown_leg = refl

a_plan : account_text two_legs 7 0 (at (plan_in mode.FirstCome None 1)) command.Plan (plan_told (codes "x\n")) ≡ codes "line 7 plan\n"
unfolding digits
a_plan = refl

looked_back : account_text two_legs 7 0 (at (plan_in mode.FirstCome None 1)) command.Hindsight (hindsight_told (whole (pos 1200)) 700 0)
    ≡ codes "line 7 hindsight\n"
    ++ codes "answer hindsight 1200/1 revenue 700 withheld 0\n"
unfolding digits whole ◌over◌
looked_back = refl

a_bad_line : account_text two_legs 8 0 (at (plan_in mode.FirstCome None 1)) command.Bad bad ≡ codes "line 8 bad\nanswer bad\n"
unfolding digits
a_bad_line = refl

-- the line that made the plan in force is the last that was answered `optimised`; one that failed made none
last_optimised : planned_after (optimised (whole (pos 3)) ∷ no_fare ∷ optimised_none ∷ overflow ∷ memory ∷ sold 1 ∷ []) 1 0 ≡ 3
last_optimised = refl

none_optimised : planned_after (overflow ∷ memory ∷ unknown ∷ []) 1 0 ≡ 0
none_optimised = refl
