-- Selections of past requests: what could have been sold in place of what was.
use Rattle.std.specs.Prelude.{ℕ, ◌≤◌, ◌*◌, ◌<◌, ◌≤ℤ◌, pos, List, [], ◌∷◌, length, map, sum_by}
use Rattle.std.specs.List.{range_with_len}
use Rattle.nrm_fraction.specs.Fraction.{Fraction}
use Rattle.nrm_model.specs.Inventory.{inventory_of, products_on, authorised_of}
use Rattle.nrm_model.specs.Network.{NetworkValue, product_of}
use Rattle.nrm_hindsight.specs.Requests.{Request, asked_for}

-- A choice of requests, each whole and at most once, in their order.
pub data ChosenFrom : List Request → List Request → Type 0 where
  none : ChosenFrom [] []
  left_out : {request : Request} {requests chosen : List Request} → ChosenFrom requests chosen → ChosenFrom (request ∷ requests) chosen
  taken : {request : Request} {requests chosen : List Request} → ChosenFrom requests chosen
      → ChosenFrom (request ∷ requests) (request ∷ chosen)

-- the seats that requests take on a leg: those of the products that use it
abbrev pub seats_asked_on : NetworkValue → List Request → ℕ → ℕ
seats_asked_on net requests leg = sum_by (asked_for requests) (products_on (inventory_of net) leg)

-- a selection: a choice of the requests that fits the authorised seats of each leg
pub record IsSelection (net : NetworkValue) (requests chosen : List Request) : Type 0 where
  pub choice : ChosenFrom requests chosen
  pub fits : (leg : ℕ) → leg < length net.legs → seats_asked_on net chosen leg ≤ authorised_of (inventory_of net) leg

-- what a selection earns: party times fare
abbrev pub earned_by : NetworkValue → List Request → ℕ
earned_by net chosen = sum_by (λ request. request.party * (product_of net request.product).fare) chosen

-- no selection earns more than this fraction
abbrev pub BoundsSelections : NetworkValue → List Request → Fraction → Type 0
BoundsSelections net requests bound =
    (chosen : List Request) → IsSelection net requests chosen → pos (earned_by net chosen * bound.den) ≤ℤ bound.num

-- what a choice of requests takes of each product
abbrev pub taken_of_each : NetworkValue → List Request → List ℕ
taken_of_each net chosen = map (asked_for chosen) (range_with_len 0 (length net.products))
