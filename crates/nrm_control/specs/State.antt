-- What the controller remembers, and how each call changes it.
use Rattle.std.specs.Prelude.{ℕ, ◌+◌, List, [], ◌∷◌, ◌++◌, length, map}
use Rattle.std.specs.List.{range_with_len}
use Rattle.nrm_model.specs.Inventory.{inventory_of}
use Rattle.nrm_model.specs.Network.{NetworkValue}
use Rattle.nrm_book.specs.declared.booking.Booking.{Booking}
use Rattle.nrm_book.specs.Bookings.{left_on, without}
use Rattle.nrm_hindsight.specs.Requests.{Request}
use Rattle.nrm_plan.specs.Plans.{PlanValue}
use Rattle.nrm_control.specs.Refunds.{withheld_by}
use Rattle.nrm_control.specs.Verdict.{verdict_of}
use Rattle.nrm_control.specs.declared.answer.Answer.{Answer}
use Rattle.nrm_control.specs.declared.answer.Answer.TheVariants as answer

-- the plan in force, the bookings that stand, the next number, the requests so far, sold or not, and the sum withheld from cancelled
-- bookings, in whole currency units
pub record SeatState : Type 0 where
  pub plan : PlanValue
  pub bookings : List Booking
  pub next : ℕ
  pub requests : List Request
  pub withheld : ℕ

-- a session begins with a plan, no booking, number 1, no request, and nothing withheld
abbrev pub opening : PlanValue → SeatState
opening plan = record { plan = plan; bookings = []; next = 1; requests = []; withheld = 0 }

-- the seats left on each leg
abbrev pub seats_left : NetworkValue → List Booking → List ℕ
seats_left net bookings = map (left_on (inventory_of net) bookings) (range_with_len 0 (length net.legs))

-- what a request is answered in a state
abbrev pub answer_in : NetworkValue → SeatState → ℕ → ℕ → Answer
answer_in net s product party = verdict_of net s.plan s.bookings s.next product party

-- the state after a request, by its answer: each is remembered, and one that was sold is booked
abbrev pub after_answer : SeatState → ℕ → ℕ → Answer → SeatState
after_answer s product party (answer.Sold number) = record s {
  bookings = s.bookings ++ record { number = number; product = product; party = party } ∷ [];
  next = number + 1;
  requests = s.requests ++ record { product = product; party = party } ∷ [];
}
after_answer s product party (answer.Leg leg) = record s { requests = s.requests ++ record { product = product; party = party } ∷ [] }
after_answer s product party answer.Fare = record s { requests = s.requests ++ record { product = product; party = party } ∷ [] }

abbrev pub after_request : NetworkValue → SeatState → ℕ → ℕ → SeatState
after_request net s product party = after_answer s product party (answer_in net s product party)

-- the state after the booking with a number is cancelled: what isn't given back of it is withheld
abbrev pub after_cancellation : NetworkValue → SeatState → ℕ → SeatState
after_cancellation net s number = record s {
  bookings = without s.bookings number;
  withheld = s.withheld + withheld_by net s.bookings number;
}

-- the state with another plan in force
abbrev pub with_plan : SeatState → PlanValue → SeatState
with_plan s plan = record s { plan = plan }
