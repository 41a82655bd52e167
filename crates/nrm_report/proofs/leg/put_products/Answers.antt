use Rattle.std.proofs.Common.{ℕ, List, ◌∙◌, ◌<◌, All, get_or, length, sym, ap, subst, arith}
use Rattle.nrm_edge.specs.Pieces.{AppendsFront}
use Rattle.nrm_edge.proofs.Sent.{OnErr-holds}
use Rattle.nrm_model.specs.Inventory.{Inventory, inventory_of, products_on}
use Rattle.nrm_model.proofs.Inventories.{legs-count, on-leg-within}
use Rattle.nrm_report.specs.Texts.{on_line, sold_line}
use Rattle.nrm_report.proofs.ListedLines.{line-cut}
use Rattle.nrm_report.proofs.leg.put_products.Goals as goal

pub put_product-requires-clause-product : goal.put_product-requires-clause-product
put_product-requires-clause-product g c =
    let Within : List ℕ → Type 0 = λ js. All (λ j. j < length c.args.net.now.products) js in
    subst Within (sym c.products_on-product-items.ensures) (on-leg-within c.args.net.now c.args.leg) c.loop-product.product-index 0 c.loop-product-test.true

pub sold-requires : goal.sold-requires
sold-requires g c =
    let Within : List ℕ → Type 0 = λ js. All (λ j. j < length c.args.net.now.products) js in
    let within = subst Within (sym c.products_on-product-items.ensures) (on-leg-within c.args.net.now c.args.leg) c.loop-product.product-index 0 c.loop-product-test.true in
    omega (arith, within, legs-count c.args.net.now, ap (λ (inventory : Inventory). length inventory.legs) c.requires.book)

pub returns-in_err-put_product-clause-cut : goal.returns-in_err-put_product-clause-cut
returns-in_err-put_product-clause-cut g c =
    let net = c.args.net.now in
    let bookings = c.args.book.now.bookings in
    let k = c.loop-product.product-index in
    let held = g.K.Sink.held in
    let numbers = products_on (inventory_of net) c.args.leg in
    let line = ap (sold_line net c.args.leg (get_or c.products_on-product-items.result.now k 0)) c.sold.ensures ∙ ap (λ (js : List ℕ). on_line net bookings c.args.leg (get_or js k 0)) c.products_on-product-items.ensures in
    let short : k < length numbers = omega (arith, c.loop-product-test.true, ap length c.products_on-product-items.ensures) in
    OnErr-holds c.from_residual.result
    (line-cut (on_line net bookings c.args.leg) numbers k (held c.args.sink.now) (held c.loop-product.sink) (held c.put_product.new.sink) short c.loop-product.invariant.sent
    (subst (AppendsFront (held c.loop-product.sink) (held c.put_product.new.sink)) line c.in_err-put_product.ensures.cut))
