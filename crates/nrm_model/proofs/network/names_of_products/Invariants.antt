use Rattle.std.proofs.Common.{◌≡◌, map, take}
use Rattle.nrm_model.specs.declared.product.Product.{Product}
use Rattle.nrm_model.proofs.network.names_of_products.Given as goal

abbrev pub invariant-loop-product : goal.invariant-loop-product
invariant-loop-product l = l.names ≡ map (λ (product : Product). product.name) (take l.product-index l.products)
