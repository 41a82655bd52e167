-- What bookings draw on: the authorised seats of each leg, and the fare and the legs of each product.
use Rattle.std.specs.Prelude.{ℕ, Bool, ◌==◌, List, [], length, map, filter, slice_get, slice_index, unwrap_or}
use Rattle.std.specs.List.{list_any, range_with_len}
use Rattle.nrm_model.specs.declared.leg.Leg.{Leg}
use Rattle.nrm_model.specs.declared.product.Product.{Product}
use Rattle.nrm_model.specs.Network.{NetworkValue}

pub record Inventory : Type 0 where
  pub authorised : List ℕ
  pub fares : List ℕ
  pub legs : List (List ℕ)

-- that of a network
abbrev pub inventory_of : NetworkValue → Inventory
inventory_of net = record {
  authorised = map (λ (leg : Leg). leg.authorised) net.legs;
  fares = map (λ (product : Product). product.fare) net.products;
  legs = map (λ (product : Product). product.legs) net.products;
}

-- the authorised seats of a leg, the fare of a product and its legs, by number; past the last one there are none
abbrev pub authorised_of : Inventory → ℕ → ℕ
authorised_of inventory leg = slice_index inventory.authorised leg

abbrev pub fare_of : Inventory → ℕ → ℕ
fare_of inventory product = slice_index inventory.fares product

abbrev pub legs_of : Inventory → ℕ → List ℕ
legs_of inventory product = unwrap_or (slice_get inventory.legs product) []

-- whether a product uses a leg, and the products that do, in file order
abbrev pub uses_leg : Inventory → ℕ → ℕ → Bool
uses_leg inventory leg product = list_any (λ other. other == leg) (legs_of inventory product)

abbrev pub products_on : Inventory → ℕ → List ℕ
products_on inventory leg = filter (uses_leg inventory leg) (range_with_len 0 (length inventory.legs))
