use Rattle.std.proofs.Common.{◌∙◌, ◌==◌, sym, ap}
use Rattle.std.specs.List.{list_any}
use Rattle.nrm_book.proofs.OnLeg.{products-step}
use Rattle.nrm_book.proofs.on_leg.first_on.Goals as goal

pub returns-then-contains-clause-product : goal.returns-then-contains-clause-product
returns-then-contains-clause-product c =
    let tested = sym c.if-contains.true ∙ c.contains.ensures.value ∙ ap (list_any (λ other. other == c.args.leg)) c.deref.ensures.value in
    products-step c.args.legs.now c.args.leg c.args.first c.loop-product.product c.index-legs-product.result _ c.loop-product-test.true c.index-legs-product.is tested c.loop-product.invariant

pub loop-product-preserved : goal.loop-product-preserved
loop-product-preserved c =
    let tested = sym c.if-contains.false ∙ c.contains.ensures.value ∙ ap (list_any (λ other. other == c.args.leg)) c.deref.ensures.value in
    products-step c.args.legs.now c.args.leg c.args.first c.loop-product.product c.index-legs-product.result _ c.loop-product-test.true c.index-legs-product.is tested c.loop-product.invariant
