-- The laws of hindsight: its value bounds each selection of past requests, and capped tallies suffice for it.
use Rattle.std.specs.Prelude.{ℕ, ◌≡◌, ◌+◌, ◌<◌, ◌≤◌, ◌==◌, List, [], ◌∷◌, ◌++◌, length, min, if◌then◌else◌, slice_index}
use Rattle.nrm_fraction.specs.Fraction.{Fraction}
use Rattle.nrm_model.specs.Inventory.{inventory_of, authorised_of}
use Rattle.nrm_model.specs.Limits.{IsNetwork}
use Rattle.nrm_model.specs.Network.{NetworkValue, least_authorised_of}
use Rattle.nrm_lp.specs.Program.{IsAllocation, gain}
use Rattle.nrm_dlp.specs.Hindsight.{AreTallies, IsHindsight}
use Rattle.nrm_dlp.specs.Programs.{hindsight_program}
use Rattle.nrm_book.specs.declared.booking.Booking.{Booking}
use Rattle.nrm_book.specs.Bookings.{revenue_of, sold_of, sold_on}
use Rattle.nrm_hindsight.specs.Requests.{Request, requests_of, tallies_of, tally_of}
use Rattle.nrm_hindsight.specs.Selections.{BoundsSelections, ChosenFrom, IsSelection, earned_by, taken_of_each}

-- every selection is a whole allocation of the linear program of hindsight, which gains what the selection earns
abbrev pub SelectionsAllocate : Type 0
SelectionsAllocate = (net : NetworkValue) (requests chosen : List Request) → IsNetwork net → IsSelection net requests chosen
    → IsAllocation (hindsight_program net (tallies_of net requests)) 1 (taken_of_each net chosen)
    × (gain (hindsight_program net (tallies_of net requests)) (taken_of_each net chosen) ≡ earned_by net chosen)

-- so the value of hindsight bounds what every selection earns
abbrev pub SelectionsAreBounded : Type 0
SelectionsAreBounded = (net : NetworkValue) (requests : List Request) (value : Fraction) → IsNetwork net
    → IsHindsight net (tallies_of net requests) value → BoundsSelections net requests value

-- bookings that are among the requests and take no more than the authorised seats of a leg are a selection, which earns their revenue
abbrev pub BookingsAreSelected : Type 0
BookingsAreSelected = (net : NetworkValue) (requests : List Request) (bookings : List Booking) → ChosenFrom requests (requests_of bookings)
    → ((leg : ℕ) → leg < length net.legs → sold_on (inventory_of net) bookings leg ≤ authorised_of (inventory_of net) leg)
    → IsSelection net requests (requests_of bookings) × (earned_by net (requests_of bookings) ≡ revenue_of (inventory_of net) bookings)

-- the tallies of requests are tallies of the network's products
abbrev pub TalliesAreCapped : Type 0
TalliesAreCapped = (net : NetworkValue) (requests : List Request) → AreTallies net (tallies_of net requests)

-- a request adds its party to the tally of its product, up to the least authorised seats among the product's legs
abbrev pub TalliesGrow : Type 0
TalliesGrow = (net : NetworkValue) (requests : List Request) (request : Request) (product : ℕ)
    → tally_of net (requests ++ request ∷ []) product
    ≡ min (tally_of net requests product + (if request.product == product then request.party else 0)) (least_authorised_of net product)

-- tallies that are at least what is booked of each product, and at most the least authorised seats, are those of some requests, of
-- which the bookings are a choice
abbrev pub SomeRequestsStand : Type 0
SomeRequestsStand = (net : NetworkValue) (bookings : List Booking) (tallies : List ℕ) → AreTallies net tallies
    → ((product : ℕ) → product < length net.products → sold_of bookings product ≤ slice_index tallies product)
    → (requests : List Request) × (tallies_of net requests ≡ tallies) × ChosenFrom requests (requests_of bookings)
