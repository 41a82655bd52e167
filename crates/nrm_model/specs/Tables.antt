-- What the tables of names keep.
use Rattle.std.specs.Prelude.{ℕ, ◌≡◌, List, map}
use Rattle.nrm_model.specs.declared.leg.Leg.{Leg}
use Rattle.nrm_model.specs.declared.product.Product.{Product}
use Rattle.nrm_model.specs.Network.{NetworkValue}
use Rattle.nrm_model.specs.Limits.{IsNetwork}

-- the network is within the limits, and the tables hold its names in the order of the legs and the products
pub record NamesInOrder (net : NetworkValue) (leg_names product_names : List (List ℕ)) : Type 0 where
  pub network : IsNetwork net
  pub legs : leg_names ≡ map (λ (leg : Leg). leg.name) net.legs
  pub products : product_names ≡ map (λ (product : Product). product.name) net.products
