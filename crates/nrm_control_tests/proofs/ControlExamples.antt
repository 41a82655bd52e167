-- What a controller represents, and its verdicts, by hand.
use Rattle.std.specs.Prelude.{◌≡◌, [], ◌∷◌, pos, ℕ, List, Some, None, get_or, refl}
use Rattle.std.proofs.Common.{ap, arith}
use Rattle.nrm_fraction.specs.Fraction.{◌over◌, ◌*ᶠ◌, less, whole}
use Rattle.nrm_model.specs.Network.{NetworkValue}
use Rattle.nrm_model.specs.declared.mode.Mode.TheVariants as modes
use Rattle.nrm_samples.specs.Networks.{two_legs_authorised, two_legs_five_products}
use Rattle.nrm_plan.specs.Plans.{PlanValue}
use Rattle.nrm_book.specs.declared.booking.Booking.{Booking}
use Rattle.nrm_hindsight.specs.Requests.{Request, requests_of, tallies_of}
use Rattle.nrm_hindsight.specs.Selections.{ChosenFrom}
use Rattle.nrm_hindsight.specs.Selections.ChosenFrom.{none, left_out, taken}
use Rattle.nrm_control.specs.Refunds.{refund_of, withheld_by, withheld_of}
use Rattle.nrm_control.specs.Standing.{ControlValue, Represents, with_request}
use Rattle.nrm_control.specs.State.{SeatState, after_cancellation, opening, seats_left}
use Rattle.nrm_control.specs.Verdict.{verdict_of}
use Rattle.nrm_control.specs.declared.answer.Answer.TheVariants as answer

-- nothing was solved, and bid prices of 150 and 80
abbrev first : PlanValue
first = record { mode = modes.FirstCome; period = 1; left = 10 ∷ 10 ∷ []; certificate = None; nests = None }

abbrev bid : PlanValue
bid = record {
  mode = modes.Bid;
  period = 1;
  left = 10 ∷ 10 ∷ [];
  certificate = Some (record { q = pos 1; x = pos 12 ∷ pos 12 ∷ pos 16 ∷ pos 24 ∷ pos 0 ∷ []; den = pos 1; p = pos 150 ∷ pos 80 ∷ []; value = pos 16520 });
  nests = None;
}

abbrev nested : PlanValue
nested = record bid { mode = modes.Davn }

-- one that has just begun
abbrev begun : NetworkValue → PlanValue → ControlValue
begun net plan = record { net = net; plan = plan; bookings = []; next = 1; tallies = tallies_of net []; withheld = 0 }

represents_its_opening : (net : NetworkValue) (plan : PlanValue) → Represents (begun net plan) (opening plan)
represents_its_opening net plan = record { plan = refl; bookings = refl; next = refl; tallies = refl; choice = none; withheld = refl }

-- with a tally of ten for the first product, the seats of its leg, it represents a request of ten and one of eleven, and not one of nine
abbrev tallied : PlanValue → ControlValue
tallied plan = record (begun two_legs_five_products plan) { tallies = 10 ∷ 0 ∷ 0 ∷ 0 ∷ 0 ∷ [] }

ten_asked : (plan : PlanValue) → Represents (tallied plan) (record (opening plan) { requests = record { product = 0; party = 10 } ∷ [] })
ten_asked plan = record { plan = refl; bookings = refl; next = refl; tallies = refl; choice = left_out none; withheld = refl }

eleven_asked : (plan : PlanValue) → Represents (tallied plan) (record (opening plan) { requests = record { product = 0; party = 11 } ∷ [] })
eleven_asked plan = record { plan = refl; bookings = refl; next = refl; tallies = refl; choice = left_out none; withheld = refl }

nine_asked : (plan : PlanValue) → Represents (tallied plan) (record (opening plan) { requests = record { product = 0; party = 9 } ∷ [] }) → ⊥
nine_asked plan stands = let first = ap (λ (tallies : List ℕ). get_or tallies 0 0) stands.tallies in omega (arith, first)

-- a booking was asked for
abbrev first_party : List Request → ℕ
first_party [] = 0
first_party (r ∷ rs) = r.party

never_asked : (plan : PlanValue) → Represents (record (tallied plan) { bookings = record { number = 1; product = 0; party = 2 } ∷ [] }) (record (opening plan) { bookings = record { number = 1; product = 0; party = 2 } ∷ []; requests = record { product = 0; party = 10 } ∷ [] }) → ⊥
never_asked plan stands = by (record { product = 0; party = 10 } ∷ []) (requests_of (record { number = 1; product = 0; party = 2 } ∷ [])) refl refl stands.choice
  where
    by : (requests chosen : List Request) → requests ≡ record { product = 0; party = 10 } ∷ [] → chosen ≡ record { product = 0; party = 2 } ∷ [] → ChosenFrom requests chosen → ⊥
    by requests chosen e f none = cc
    by requests chosen e f (left_out none) = cc
    by requests chosen e f (left_out (left_out choice)) = cc
    by requests chosen e f (left_out (taken choice)) = cc
    by requests chosen e f (taken choice) = let ten = ap first_party e in let two = ap first_party f in omega (arith, ten, two)

-- a request is tallied whatever the answer, up to the least authorised seats
tallied_twice : with_request two_legs_five_products (3 ∷ 0 ∷ 0 ∷ 0 ∷ 0 ∷ []) 2 4 ≡ 3 ∷ 0 ∷ 4 ∷ 0 ∷ 0 ∷ []
tallied_twice = refl

tallied_full : with_request two_legs_five_products (3 ∷ 0 ∷ 0 ∷ 0 ∷ 0 ∷ []) 0 8 ≡ 10 ∷ 0 ∷ 0 ∷ 0 ∷ 0 ∷ []
tallied_full = refl

another_plan : (net : NetworkValue) → Represents (begun net first) (opening bid) → ⊥
another_plan net stands = let mode = ap (λ (plan : PlanValue). plan.mode) stands.plan in cc

another_number : (net : NetworkValue) (plan : PlanValue) → Represents (begun net plan) (record (opening plan) { next = 2 }) → ⊥
another_number net plan stands = cc stands.next

one_booking_more : (net : NetworkValue) (plan : PlanValue) → Represents (begun net plan) (record (opening plan) { bookings = record { number = 1; product = 0; party = 2 } ∷ [] }) → ⊥
one_booking_more net plan stands = cc stands.bookings

another_sum_withheld : (net : NetworkValue) (plan : PlanValue) → Represents (begun net plan) (record (opening plan) { withheld = 1 }) → ⊥
another_sum_withheld net plan stands = cc stands.withheld

-- ---- ACL over both legs for 229, below 230; and BCL for 80, which equals its price
below_the_prices : verdict_of two_legs_five_products bid [] 1 4 1 ≡ answer.Fare
below_the_prices = refl

equal_to_the_price : verdict_of two_legs_five_products bid [] 1 3 1 ≡ answer.Sold 1
equal_to_the_price = refl

without_prices : verdict_of two_legs_five_products first [] 1 4 1 ≡ answer.Sold 1
without_prices = refl

-- nine of the ten seats on BC are sold
abbrev nine_sold : List Booking
nine_sold = record { number = 1; product = 3; party = 9 } ∷ []

-- a leg refuses before the fare does
leg_before_fare : verdict_of two_legs_five_products bid nine_sold 2 4 2 ≡ answer.Leg 1
leg_before_fare = refl

left_now : seats_left two_legs_five_products nine_sold ≡ 10 ∷ 1 ∷ []
left_now = refl

-- ---- by virtual nests: on AB seven seats are protected above the bucket of ABL, and none above that of ABH and ACH
abbrev three_low : List Booking
three_low = record { number = 1; product = 1; party = 3 } ∷ []

third_low : verdict_of two_legs_five_products nested [] 1 1 3 ≡ answer.Sold 1
unfolding ◌over◌ ◌*ᶠ◌ less whole
third_low = refl

fourth_low : verdict_of two_legs_five_products nested three_low 2 1 1 ≡ answer.Leg 0
unfolding ◌over◌ ◌*ᶠ◌ less whole
fourth_low = refl

seven_high : verdict_of two_legs_five_products nested three_low 2 0 7 ≡ answer.Sold 2
seven_high = refl

eighth_high : verdict_of two_legs_five_products nested three_low 2 0 8 ≡ answer.Leg 0
eighth_high = refl

-- ---- refunds: of a fare of 199, which no percentage but 0 and 100 divides, for parties of one and of two
abbrev local_at : ℕ → NetworkValue
local_at percent = record {
  histories = 1;
  periods = 1;
  legs = [];
  products = record { name = []; fare = 199; refund = percent; legs = [] } ∷ [];
  demand = [];
}

abbrev party_of : ℕ → Booking
party_of seats = record { number = 1; product = 0; party = seats }

nothing_of_one : refund_of (local_at 0) (party_of 1) ≡ 0
nothing_of_one = refl

nothing_of_two : refund_of (local_at 0) (party_of 2) ≡ 0
nothing_of_two = refl

-- 1.99 and 3.98: each seat by itself would give 1, and both of them 2
one_per_cent_of_one : refund_of (local_at 1) (party_of 1) ≡ 1
one_per_cent_of_one = refl

one_per_cent_of_two : refund_of (local_at 1) (party_of 2) ≡ 3
one_per_cent_of_two = refl

-- 65.67 and 131.34: each seat by itself would give 65, and both of them 130
a_third_of_one : refund_of (local_at 33) (party_of 1) ≡ 65
a_third_of_one = refl

a_third_of_two : refund_of (local_at 33) (party_of 2) ≡ 131
a_third_of_two = refl

-- 197.01 and 394.02
most_of_one : refund_of (local_at 99) (party_of 1) ≡ 197
most_of_one = refl

most_of_two : refund_of (local_at 99) (party_of 2) ≡ 394
most_of_two = refl

all_of_one : refund_of (local_at 100) (party_of 1) ≡ 199
all_of_one = refl

all_of_two : refund_of (local_at 100) (party_of 2) ≡ 398
all_of_two = refl

-- the rest is withheld: all of it, some, and nothing
all_withheld : withheld_of (local_at 0) (party_of 2) ≡ 398
all_withheld = refl

rest_withheld : withheld_of (local_at 33) (party_of 2) ≡ 267
rest_withheld = refl

none_withheld : withheld_of (local_at 100) (party_of 2) ≡ 0
none_withheld = refl

-- two local seats and a through one, for which all is given back
abbrev both_sold : List Booking
both_sold = record { number = 1; product = 1; party = 2 } ∷ record { number = 3; product = 0; party = 1 } ∷ []

local_withheld : withheld_by two_legs_authorised both_sold 1 ≡ 267
local_withheld = refl

through_not_withheld : withheld_by two_legs_authorised both_sold 3 ≡ 0
through_not_withheld = refl

dead_number_withholds_nothing : withheld_by two_legs_authorised both_sold 2 ≡ 0
dead_number_withholds_nothing = refl

-- what is withheld adds to the sum; a dead number changes nothing
abbrev with_both : PlanValue → SeatState
with_both plan = record { plan = plan; bookings = both_sold; next = 4; requests = []; withheld = 10 }

local_cancelled : (plan : PlanValue) → after_cancellation two_legs_authorised (with_both plan) 1
    ≡ record { plan = plan; bookings = record { number = 3; product = 0; party = 1 } ∷ []; next = 4; requests = []; withheld = 277 }
local_cancelled plan = refl

dead_number_cancelled : (plan : PlanValue) → after_cancellation two_legs_authorised (with_both plan) 2 ≡ with_both plan
dead_number_cancelled plan = refl
