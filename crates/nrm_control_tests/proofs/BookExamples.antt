-- Seats left on legs with other seats than authorised seats, which a reader can check by hand.
use Rattle.std.specs.Prelude.{◌≡◌, List, [], ◌∷◌, map, refl}
use Rattle.nrm_model.specs.Inventory.{inventory_of}
use Rattle.nrm_samples.specs.Networks.{two_legs_authorised}
use Rattle.nrm_book.specs.declared.booking.Booking.{Booking}
use Rattle.nrm_book.specs.Bookings.{left_on, sold_on, sold_on_each}

-- four seats of the first leg are authorised, one more than it has, and one of the second, one less
all_left : map (left_on (inventory_of two_legs_authorised) []) (0 ∷ 1 ∷ []) ≡ 4 ∷ 1 ∷ []
all_left = refl

-- a party of three over the first leg leaves one there, and one over both takes the last of each
abbrev local_and_through : List Booking
local_and_through = record { number = 1; product = 1; party = 3 } ∷ record { number = 2; product = 0; party = 1 } ∷ []

all_sold : (map (sold_on (inventory_of two_legs_authorised) local_and_through) (0 ∷ 1 ∷ []) ≡ 4 ∷ 1 ∷ [])
    × (map (left_on (inventory_of two_legs_authorised) local_and_through) (0 ∷ 1 ∷ []) ≡ 0 ∷ 0 ∷ [])
all_sold = (refl, refl)

-- the first leg is used by both products, and the second by the one over both alone
each_sold : (sold_on_each (inventory_of two_legs_authorised) local_and_through 0 ≡ (0, 1) ∷ (1, 3) ∷ []) × (sold_on_each (inventory_of two_legs_authorised) local_and_through 1 ≡ (0, 1) ∷ [])
each_sold = (refl, refl)
