use Rattle.std.proofs.Common.{◌∙◌, length, subst, arith}
use Rattle.std.specs.Io.KnownBytes.{Appends}
use Rattle.nrm_edge.specs.Pieces.{AppendsFront}
use Rattle.nrm_edge.proofs.Sent.{OnErr-holds}
use Rattle.nrm_dual.specs.Texts.{product_line}
use Rattle.nrm_report.proofs.NumberedLines.{line-cut, line-sent}
use Rattle.nrm_report.proofs.certificate.put_allotted.Goals as goal

pub returns-in_err-put_all-clause-cut : goal.returns-in_err-put_all-clause-cut
returns-in_err-put_all-clause-cut g c =
    let net = c.args.net.now in
    let held = g.K.Sink.held in
    let front = subst (AppendsFront (held c.loop-product.sink) (held c.put_all.new.sink)) (c.bytes.ensures ∙ c.line_for_product.ensures) c.in_err-put_all.ensures.cut in
    OnErr-holds c.from_residual.result
    (line-cut (held c.args.sink.now) (held c.loop-product.sink) (held c.put_all.new.sink) (product_line net c.args.certificate.now) c.loop-product.product (length net.products)
    (omega (arith, c.loop-product-test.true, c.product_count-product-end.ensures.count)) c.loop-product.invariant.sent front)

pub loop-product-preserved : goal.loop-product-preserved
loop-product-preserved g c =
    let held = g.K.Sink.held in
    let next = subst (Appends (held c.loop-product.sink) (held c.put_all.new.sink)) (c.bytes.ensures ∙ c.line_for_product.ensures) c.in_ok-put_all.ensures.whole in
    record {
      sent = line-sent (held c.args.sink.now) (held c.loop-product.sink) (held c.put_all.new.sink) (product_line c.args.net.now c.args.certificate.now) c.loop-product.product c.loop-product.invariant.sent next;
      count = omega (arith, c.loop-product.invariant.count, c.in_ok-put_all.ensures.cause.done);
    }
