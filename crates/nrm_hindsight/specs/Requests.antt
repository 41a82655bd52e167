-- Past requests, and their tallies.
use Rattle.std.specs.Prelude.{ℕ, ◌==◌, List, length, map, sum_by, min, if◌then◌else◌}
use Rattle.std.specs.List.{range_with_len}
use Rattle.nrm_model.specs.Network.{NetworkValue, least_authorised_of}
use Rattle.nrm_book.specs.declared.booking.Booking.{Booking}

-- a past request: a product and a party
pub record Request : Type 0 where
  pub product : ℕ
  pub party : ℕ

-- the seats that requests ask for of a product
abbrev pub asked_for : List Request → ℕ → ℕ
asked_for requests product = sum_by (λ request. if request.product == product then request.party else 0) requests

-- the tally of a product: the seats asked for, but no more than the least authorised seats among its legs
abbrev pub tally_of : NetworkValue → List Request → ℕ → ℕ
tally_of net requests product = min (asked_for requests product) (least_authorised_of net product)

abbrev pub tallies_of : NetworkValue → List Request → List ℕ
tallies_of net requests = map (tally_of net requests) (range_with_len 0 (length net.products))

-- bookings as the requests that they were
abbrev pub request_of : Booking → Request
request_of booking = record { product = booking.product; party = booking.party }

abbrev pub requests_of : List Booking → List Request
requests_of bookings = map request_of bookings
