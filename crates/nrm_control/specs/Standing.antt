-- What callers see of a controller, and the states that it represents.
use Rattle.std.specs.Prelude.{ℕ, ◌≡◌, ◌<◌, ◌≤◌, ◌+◌, ◌-◌, ◌*◌, List, ◌∷◌, [], ◌++◌, length, min, slice_index, slice_set, ⊤}
use Rattle.nrm_fraction.specs.Fraction.{Fraction}
use Rattle.nrm_model.specs.Inventory.{inventory_of}
use Rattle.nrm_model.specs.Network.{NetworkValue, least_authorised_of}
use Rattle.nrm_model.specs.Limits.{IsNetwork}
use Rattle.nrm_model.specs.declared.limits.TheConstants.{MOST_FARE, MOST_PARTY}
use Rattle.nrm_dlp.specs.Hindsight.{AreTallies}
use Rattle.nrm_book.specs.declared.booking.Booking.{Booking}
use Rattle.nrm_book.specs.Book.{BookValue, IsBook}
use Rattle.nrm_book.specs.Bookings.{sold_of}
use Rattle.nrm_hindsight.specs.Requests.{requests_of, tallies_of}
use Rattle.nrm_hindsight.specs.Selections.{BoundsSelections, ChosenFrom, IsSelection}
use Rattle.nrm_model.specs.declared.mode.Mode.{Mode}
use Rattle.nrm_simplex.specs.declared.fault.SolveFault.{SolveFault}
use Rattle.nrm_simplex.specs.declared.fault.SolveFault.TheVariants as fault
use Rattle.nrm_plan.specs.Plans.{IsPlanFault, IsPlanOf, PlanValue}
use Rattle.nrm_control.specs.State.{SeatState}
use Rattle.nrm_control.specs.declared.answer.Answer.{Answer}
use Rattle.nrm_control.specs.declared.answer.Answer.TheVariants as answer

-- the network, the plan in force, the bookings that stand, the next number, the tallies of the past requests, product by product, and the
-- sum withheld from cancelled bookings
pub record ControlValue : Type 0 where
  pub net : NetworkValue
  pub plan : PlanValue
  pub bookings : List Booking
  pub next : ℕ
  pub tallies : List ℕ
  pub withheld : ℕ

-- the controller's book
abbrev pub book_of : ControlValue → BookValue
book_of control = record { inventory = inventory_of control.net; bookings = control.bookings; next = control.next }

-- A controller represents each state that has its plan, its bookings, its number and its sum withheld, and requests with its tallies, of
-- which the bookings are a choice. It keeps the tallies and not the requests, so they may be any such.
pub record Represents (control : ControlValue) (s : SeatState) : Type 0 where
  pub plan : s.plan ≡ control.plan
  pub bookings : s.bookings ≡ control.bookings
  pub next : s.next ≡ control.next
  pub tallies : tallies_of control.net s.requests ≡ control.tallies
  pub choice : ChosenFrom s.requests (requests_of s.bookings)
  pub withheld : s.withheld ≡ control.withheld

-- tallies of a network beside bookings: of no product more is booked than its tally
pub record AreTalliesBeside (net : NetworkValue) (bookings : List Booking) (tallies : List ℕ) : Type 0 where
  pub capped : AreTallies net tallies
  pub booked : (product : ℕ) → product < length net.products → sold_of bookings product ≤ slice_index tallies product

-- the most that one booking is worth, in whole currency units: the largest party at the highest fare
abbrev pub most_worth : ℕ
most_worth = MOST_PARTY * MOST_FARE

-- for each number that was given and isn't live any more no more was withheld than that: so the sum stays below 2^77
abbrev pub IsWithheld : List Booking → ℕ → ℕ → Type 0
IsWithheld bookings next withheld = withheld + length bookings * most_worth ≤ (next - 1) * most_worth

-- a network within the limits, and a plan, a book and tallies of it, and a sum withheld
pub record IsInForce (net : NetworkValue) (plan : PlanValue) (book : BookValue) (tallies : List ℕ) (held_back : ℕ) : Type 0 where
  pub network : IsNetwork net
  pub planned : IsPlanOf net plan
  pub inventory : book.inventory ≡ inventory_of net
  pub sound : IsBook book
  pub tallied : AreTalliesBeside net book.bookings tallies
  pub withheld : IsWithheld book.bookings book.next held_back

-- its network is within the limits, its book is one of that network, so that no leg has more seats sold than are authorised, its plan is
-- the network's, at the plan's own seats left and period, of no product more is booked than its tally, and no more is withheld than was
-- paid for bookings that are cancelled
pub record IsControl (control : ControlValue) : Type 0 where
  pub network : IsNetwork control.net
  pub book : IsBook (book_of control)
  pub planned : IsPlanOf control.net control.plan
  pub tallied : AreTalliesBeside control.net control.bookings control.tallies
  pub withheld : IsWithheld control.bookings control.next control.withheld

-- the tallies after a request: its party is added to its product's, up to the least authorised seats among the product's legs
abbrev pub with_request : NetworkValue → List ℕ → ℕ → ℕ → List ℕ
with_request net tallies product party =
    slice_set tallies product (min (slice_index tallies product + party) (least_authorised_of net product))

-- the controller after a request was answered: it is tallied, whatever the answer; and one that was sold is booked
abbrev pub with_answer : ControlValue → ℕ → ℕ → Answer → ControlValue
with_answer control product party (answer.Sold number) = record control {
  bookings = control.bookings ++ record { number = number; product = product; party = party } ∷ [];
  next = number + 1;
  tallies = with_request control.net control.tallies product party;
}
with_answer control product party (answer.Leg leg) = record control { tallies = with_request control.net control.tallies product party }
with_answer control product party answer.Fare = record control { tallies = with_request control.net control.tallies product party }

-- a fraction bounds what every selection of past requests earns, of each state that a controller represents; and the bookings that stand
-- are one of them
abbrev pub BoundsRequests : ControlValue → Fraction → Type 0
BoundsRequests control bound = (s : SeatState) → Represents control s
    → BoundsSelections control.net s.requests bound × IsSelection control.net s.requests (requests_of s.bookings)

-- a leg that refuses is one of the network
abbrev pub IsOnNetwork : NetworkValue → Answer → Type 0
IsOnNetwork net (answer.Sold number) = ⊤
IsOnNetwork net (answer.Leg leg) = leg < length net.legs
IsOnNetwork net answer.Fare = ⊤

-- each controller represents some state
abbrev pub RepresentsSome : Type 0
RepresentsSome = (control : ControlValue) → IsControl control → (s : SeatState) × Represents control s

-- why none begins: the opening plan's linear program is Large; or memory runs out, which may be for the book
abbrev pub IsStartFault : NetworkValue → Mode → SolveFault → Type 0
IsStartFault net m (fault.Overflow pivots number) = IsPlanFault net m (inventory_of net).authorised 1 (fault.Overflow pivots number)
IsStartFault net m fault.NoMemory = ⊤
