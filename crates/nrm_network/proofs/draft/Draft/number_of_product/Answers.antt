-- The recent product has the name, so a look-up finds its number.
use Rattle.std.proofs.Common.{◌≡◌, ◌∙◌, ◌<◌, List, length, get_or, ap, sym, subst}
use Rattle.nrm_model.specs.declared.product.Product.{Product}
use Rattle.nrm_network.proofs.ProductPlace.{product-at}
use Rattle.nrm_network.proofs.draft.Draft.number_of_product.Goals as goal

pub returns-in-Some : goal.returns-in-Some
returns-in-Some c = λ taken is.
    let look = c.in-Some.ensures.lookup in
    let all = c.deref.ensures.value in
    let product : Product = c.in-Some.product.now in
    let few : c.args.self.now.recent < length c.args.self.now.products.items =
    subst (λ (ps : List Product). c.args.self.now.recent < length ps) all look.3.0 in
    let at : product ≡ get_or c.args.self.now.products.items c.args.self.now.recent product = look.1
    ∙ ap (λ (ps : List Product). get_or ps c.args.self.now.recent product) all in
    product-at c.args.self.now taken c.args.self.now.recent product c.args.name.now is few at (sym c.if-eq.ensures)
