-- Whether a request is sold.
use Rattle.std.specs.Prelude.{ℕ, ◌+◌, Bool, List, find, nat_lt, if◌then◌else◌}
use Rattle.std.specs.Option.{option_map_or}
use Rattle.nrm_model.specs.Inventory.{inventory_of}
use Rattle.nrm_model.specs.Network.{NetworkValue, product_of}
use Rattle.nrm_book.specs.Bookings.{left_on}
use Rattle.nrm_book.specs.declared.booking.Booking.{Booking}
use Rattle.nrm_plan.specs.Plans.{PlanValue, fare_refuses, protected_from}
use Rattle.nrm_control.specs.declared.answer.Answer.{Answer}
use Rattle.nrm_control.specs.declared.answer.Answer.TheVariants as answer

-- a leg refuses where its seats left don't cover the party and the seats that the plan in force protects from the product: those for the
-- buckets above its own
abbrev pub leg_refuses : NetworkValue → PlanValue → List Booking → ℕ → ℕ → ℕ → Bool
leg_refuses net plan bookings product party leg =
    nat_lt (left_on (inventory_of net) bookings leg) (party + protected_from net plan leg product)

-- the first leg that refuses, in the product's own order; else the fare, where it refuses by the plan in force; else the request is sold
-- with the next number
abbrev pub verdict_of : NetworkValue → PlanValue → List Booking → ℕ → ℕ → ℕ → Answer
verdict_of net plan bookings next product party =
    option_map_or answer.Leg (find (leg_refuses net plan bookings product party) (product_of net product).legs)
    (if fare_refuses net plan product then answer.Fare else answer.Sold next)
