use Rattle.std.proofs.Common.{ℕ, List, ◌≡◌, ◌<◌, All, get_or, length, true, sym, ap, subst, arith}
use Rattle.std.specs.Io.KnownBytes.{Appends}
use Rattle.nrm_edge.specs.Pieces.{AppendsFront}
use Rattle.nrm_edge.proofs.Sent.{OnErr-holds}
use Rattle.nrm_model.specs.Inventory.{inventory_of, products_on, uses_leg}
use Rattle.nrm_model.proofs.Inventories.{on-leg-uses, on-leg-within}
use Rattle.nrm_report.specs.Texts.{nest_line}
use Rattle.nrm_report.proofs.ListedLines.{line-cut, line-sent}
use Rattle.nrm_report.proofs.nests.put_nests_of_leg.Goals as goal

pub put_nest-requires-clause-product : goal.put_nest-requires-clause-product
put_nest-requires-clause-product g c =
    let Within : List ℕ → Type 0 = λ js. All (λ j. j < length c.args.net.now.products) js in
    subst Within (sym c.products_on-product-items.ensures) (on-leg-within c.args.net.now c.args.leg) c.loop-product.product-index 0 c.loop-product-test.true

pub put_nest-requires-clause-uses : goal.put_nest-requires-clause-uses
put_nest-requires-clause-uses g c =
    let Uses : List ℕ → Type 0 = λ js. All (λ j. uses_leg (inventory_of c.args.net.now) c.args.leg j ≡ true) js in
    subst Uses (sym c.products_on-product-items.ensures) (on-leg-uses c.args.net.now c.args.leg) c.loop-product.product-index 0 c.loop-product-test.true

pub returns-in_err-put_nest-clause-cut : goal.returns-in_err-put_nest-clause-cut
returns-in_err-put_nest-clause-cut g c =
    let net = c.args.net.now in
    let cert = c.args.certificate.now in
    let k = c.loop-product.product-index in
    let held = g.K.Sink.held in
    let numbers = products_on (inventory_of net) c.args.leg in
    let line = ap (λ (js : List ℕ). nest_line net cert c.args.leg (get_or js k 0)) c.products_on-product-items.ensures in
    let short : k < length numbers = omega (arith, c.loop-product-test.true, ap length c.products_on-product-items.ensures) in
    OnErr-holds c.from_residual.result
    (line-cut (nest_line net cert c.args.leg) numbers k (held c.args.sink.now) (held c.loop-product.sink) (held c.put_nest.new.sink) short c.loop-product.invariant.sent
    (subst (AppendsFront (held c.loop-product.sink) (held c.put_nest.new.sink)) line c.in_err-put_nest.ensures.cut))

pub loop-product-preserved : goal.loop-product-preserved
loop-product-preserved g c =
    let net = c.args.net.now in
    let cert = c.args.certificate.now in
    let k = c.loop-product.product-index in
    let held = g.K.Sink.held in
    let numbers = products_on (inventory_of net) c.args.leg in
    let line = ap (λ (js : List ℕ). nest_line net cert c.args.leg (get_or js k 0)) c.products_on-product-items.ensures in
    let short : k < length numbers = omega (arith, c.loop-product-test.true, ap length c.products_on-product-items.ensures) in
    record {
      sent = line-sent (nest_line net cert c.args.leg) numbers k (held c.args.sink.now) (held c.loop-product.sink) (held c.put_nest.new.sink) short c.loop-product.invariant.sent
          (subst (Appends (held c.loop-product.sink) (held c.put_nest.new.sink)) line c.in_ok-put_nest.ensures.whole);
      count = omega (arith, c.loop-product.invariant.count, c.in_ok-put_nest.ensures.cause.done);
    }
