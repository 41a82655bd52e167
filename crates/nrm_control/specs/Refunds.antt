-- What a cancellation gives back, and what it withholds.
use Rattle.std.specs.Prelude.{ℕ, ◌-◌, ◌*◌, ◌/◌, List}
use Rattle.std.specs.Option.{option_map_or}
use Rattle.nrm_model.specs.Inventory.{inventory_of}
use Rattle.nrm_model.specs.Network.{NetworkValue, product_of}
use Rattle.nrm_book.specs.declared.booking.Booking.{Booking}
use Rattle.nrm_book.specs.Bookings.{booking_numbered, worth_of}

-- what is given back of a booking, in whole currency units: of what it is worth, party times fare, the product's percentage, cut to a
-- whole number once
abbrev pub refund_of : NetworkValue → Booking → ℕ
refund_of net booking = worth_of (inventory_of net) booking * (product_of net booking.product).refund / 100

-- and the rest of what it is worth, which is withheld
abbrev pub withheld_of : NetworkValue → Booking → ℕ
withheld_of net booking = worth_of (inventory_of net) booking - refund_of net booking

-- what the cancellation of a number withholds: nothing where it isn't live
abbrev pub withheld_by : NetworkValue → List Booking → ℕ → ℕ
withheld_by net bookings number = option_map_or (withheld_of net) (booking_numbered bookings number) 0
