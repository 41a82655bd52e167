-- The largest party of a product that would be sold now.
use Rattle.std.specs.Prelude.{ℕ, ◌-◌, ◌+◌, ◌∷◌, List, map, nat_lt, if◌then◌else◌}
use Rattle.nrm_model.specs.Inventory.{inventory_of}
use Rattle.nrm_model.specs.Network.{NetworkValue, least_of, product_of}
use Rattle.nrm_model.specs.declared.limits.TheConstants.{MOST_PARTY}
use Rattle.nrm_book.specs.Bookings.{left_on}
use Rattle.nrm_book.specs.declared.booking.Booking.{Booking}
use Rattle.nrm_plan.specs.Plans.{PlanValue, fare_refuses, protected_from}
use Rattle.nrm_control.specs.Verdict.{verdict_of}
use Rattle.nrm_session.specs.Replies.{Reply, bad, reply_to}

-- the seats of a leg that are open to a product: those left that are not protected from it
abbrev pub open_seats : NetworkValue → PlanValue → List Booking → ℕ → ℕ → ℕ
open_seats net plan bookings product leg = left_on (inventory_of net) bookings leg - protected_from net plan leg product

-- none, where the fare refuses; else the least number of open seats of its legs, and no more than a line may ask for
abbrev pub largest_party : NetworkValue → PlanValue → List Booking → ℕ → ℕ
largest_party net plan bookings product =
    if fare_refuses net plan product then 0
    else least_of (MOST_PARTY ∷ map (open_seats net plan bookings product) (product_of net product).legs)

-- what a request for a seat more would be answered: beyond the most that a line may ask for it is no request
abbrev pub beyond : NetworkValue → PlanValue → List Booking → ℕ → ℕ → ℕ → Reply
beyond net plan bookings number product party =
    if nat_lt party MOST_PARTY then reply_to net (verdict_of net plan bookings number product (party + 1)) else bad
