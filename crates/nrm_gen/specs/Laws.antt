-- Laws of made networks.
use Rattle.std.specs.Prelude.{ℕ, ◌≤◌, All, filter, length, nat_le, nat_lt}
use Rattle.nrm_model.specs.Limits.{IsNetwork}
use Rattle.nrm_model.specs.declared.product.Product.{Product}
use Rattle.nrm_gen.specs.MadeNetwork.{made_network}

-- every made network is within the limits
abbrev pub MadeNetworksAreLimited : Type 0
MadeNetworksAreLimited = (number : ℕ) → IsNetwork (made_network number)

-- a product takes a seat on at most one inbound and at most one outbound leg
pub record UsesOneLegEachWay (product : Product) : Type 0 where
  pub inbound : length (filter (λ i. nat_lt i 6) product.legs) ≤ 1
  pub outbound : length (filter (λ i. nat_le 6 i) product.legs) ≤ 1

-- so does each product of every made network
abbrev pub ProductsUseOneLegEachWay : Type 0
ProductsUseOneLegEachWay = (number : ℕ) → All UsesOneLegEachWay (made_network number).products
