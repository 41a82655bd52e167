-- The number in the table of names is that of the first product of the name.
use Rattle.std.proofs.Common.{◌∙◌, ◌<◌, ap, arith, length, subst}
use Rattle.nrm_model.specs.declared.product.Product.{Product}
use Rattle.nrm_model.specs.Network.{NetworkValue, product_named}
use Rattle.nrm_model.proofs.NameLemmas.{number-below, number-same}
use Rattle.nrm_model.proofs.network.Network.find_product.Goals as goal

pub overflow_cast-result : goal.overflow_cast-result
overflow_cast-result c =
    let names = c.self.invariant.products in
    let few = c.self.invariant.network.product_count in
    let below = number-below (λ (product : Product). product.name) c.args.name.now c.self.inside.products.items c.self.inside.product_names c.in-Some.j names c.in-Some.ensures in
    omega arith

pub returns-in-Some-clause-number : goal.returns-in-Some-clause-number
returns-in-Some-clause-number c =
    c.in-Some.ensures ∙ number-same (λ (product : Product). product.name) c.args.name.now c.self.inside.products.items c.self.inside.product_names c.self.invariant.products
    ∙ ap (λ (net : NetworkValue). product_named net c.args.name.now) c.self.view_is

pub returns-in-None-clause-number : goal.returns-in-None-clause-number
returns-in-None-clause-number c =
    c.in-None.ensures ∙ number-same (λ (product : Product). product.name) c.args.name.now c.self.inside.products.items c.self.inside.product_names c.self.invariant.products
    ∙ ap (λ (net : NetworkValue). product_named net c.args.name.now) c.self.view_is

pub returns-in-Some-clause-within : goal.returns-in-Some-clause-within
returns-in-Some-clause-within c =
    let names = c.self.invariant.products in
    let below = number-below (λ (product : Product). product.name) c.args.name.now c.self.inside.products.items c.self.inside.product_names c.in-Some.j names c.in-Some.ensures in
    subst (λ (net : NetworkValue). c.in-Some.j < length net.products) c.self.view_is below
