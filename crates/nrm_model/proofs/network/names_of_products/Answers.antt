use Rattle.std.proofs.Common.{arith}
use Rattle.nrm_model.specs.declared.product.Product.{Product}
use Rattle.nrm_model.proofs.NameLemmas.{none-earlier}
use Rattle.nrm_model.proofs.network.names_of_products.Goals as goal

pub add-requires : goal.add-requires
add-requires c = none-earlier (λ (product : Product). product.name) c.args.products.now c.loop-product.product-index c.product-item.result c.loop-product.names c.requires (omega arith) c.product-item.is c.loop-product.invariant
