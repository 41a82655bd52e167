-- How a network is stored: what it keeps beside its parts.
use Rattle.std.specs.Prelude.{ℕ, ◌≡◌, List, [], length, map}
use Rattle.std.specs.List.{range_with_len}
use Rattle.nrm_model.specs.declared.leg.Leg.{Leg}
use Rattle.nrm_model.specs.declared.product.Product.{Product}
use Rattle.nrm_model.specs.Network.{NetworkValue}
use Rattle.nrm_model.specs.Inventory.{Inventory, products_on}
use Rattle.nrm_model.specs.Limits.{IsNetwork}

-- what is asked of these products: their legs
abbrev pub legs_alone : List Product → Inventory
legs_alone products = record { authorised = []; fares = []; legs = map (λ (product : Product). product.legs) products }

-- the numbers of those among them that use a leg
abbrev pub numbers_using : List Product → ℕ → List ℕ
numbers_using products leg = products_on (legs_alone products) leg

-- the network is within the limits, the tables hold its names in the order of the legs and the products, and the lists have, leg by leg,
-- the products that use it
pub record IsStored (net : NetworkValue) (leg_names product_names on_legs : List (List ℕ)) : Type 0 where
  pub network : IsNetwork net
  pub legs : leg_names ≡ map (λ (leg : Leg). leg.name) net.legs
  pub products : product_names ≡ map (λ (product : Product). product.name) net.products
  pub users : on_legs ≡ map (numbers_using net.products) (range_with_len 0 (length net.legs))
