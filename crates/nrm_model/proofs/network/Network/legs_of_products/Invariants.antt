use Rattle.std.proofs.Common.{◌≡◌, map, take}
use Rattle.nrm_model.specs.declared.product.Product.{Product}
use Rattle.nrm_model.proofs.network.Network.legs_of_products.Given as goal

abbrev pub invariant-loop-product : goal.invariant-loop-product
invariant-loop-product l = map (λ v. v.items) l.legs.items ≡ map (λ (product : Product). product.legs) (take l.product-index l.self.products)
