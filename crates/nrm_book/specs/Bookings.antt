-- The bookings that stand, and the seats that they take and leave.
use Rattle.std.specs.Prelude.{ℕ, ◌<◌, ◌-◌, ◌*◌, ◌==◌, not, List, filter, find, map, sum_by, AllPairs, Option, if◌then◌else◌}
use Rattle.nrm_model.specs.Inventory.{Inventory, authorised_of, fare_of, products_on}
use Rattle.nrm_book.specs.declared.booking.Booking.{Booking}

-- the seats sold of a product: the parties of its bookings
abbrev pub sold_of : List Booking → ℕ → ℕ
sold_of bookings product = sum_by (λ booking. if booking.product == product then booking.party else 0) bookings

-- the seats sold on a leg: those of the products that use it
abbrev pub sold_on : Inventory → List Booking → ℕ → ℕ
sold_on inventory bookings leg = sum_by (sold_of bookings) (products_on inventory leg)

-- the products that use a leg, in the order of the network, each with the seats sold of it
abbrev pub sold_on_each : Inventory → List Booking → ℕ → List (ℕ × ℕ)
sold_on_each inventory bookings leg = map (λ product. (product, sold_of bookings product)) (products_on inventory leg)

-- the seats left on a leg: its authorised seats that are not sold
abbrev pub left_on : Inventory → List Booking → ℕ → ℕ
left_on inventory bookings leg = authorised_of inventory leg - sold_on inventory bookings leg

-- what a booking is worth, and all of them
abbrev pub worth_of : Inventory → Booking → ℕ
worth_of inventory booking = booking.party * fare_of inventory booking.product

abbrev pub revenue_of : Inventory → List Booking → ℕ
revenue_of inventory bookings = sum_by (worth_of inventory) bookings

-- the booking with a number, if it is live, and the others
abbrev pub booking_numbered : List Booking → ℕ → Option Booking
booking_numbered bookings number = find (λ booking. booking.number == number) bookings

abbrev pub without : List Booking → ℕ → List Booking
without bookings number = filter (λ booking. not (booking.number == number)) bookings

-- the numbers rise
abbrev pub NumbersRise : List Booking → Type 0
NumbersRise bookings = AllPairs (λ (earlier later : Booking). earlier.number < later.number) bookings
