use Rattle.std.proofs.Common.{ℕ, List, flat_map, length, arith}
use Rattle.nrm_edge.proofs.Sent.{OnErr-holds}
use Rattle.nrm_model.specs.Inventory.{inventory_of, products_on}
use Rattle.nrm_report.specs.Texts.{nest_line}
use Rattle.nrm_report.proofs.NumberedLines.{line-cut, line-sent}
use Rattle.nrm_report.proofs.nests.put_nests.Goals as goal

pub returns-in_err-put_nests_of_leg-clause-cut : goal.returns-in_err-put_nests_of_leg-clause-cut
returns-in_err-put_nests_of_leg-clause-cut g c =
    let net = c.args.net.now in
    let held = g.K.Sink.held in
    let lines : ℕ → List ℕ = λ (i : ℕ). flat_map (nest_line net c.args.certificate.now i) (products_on (inventory_of net) i) in
    OnErr-holds c.from_residual.result
    (line-cut (held c.args.sink.now) (held c.loop-leg.sink) (held c.put_nests_of_leg.new.sink) lines c.loop-leg.leg (length net.legs)
    (omega (arith, c.loop-leg-test.true, c.leg_count-leg-end.ensures.count)) c.loop-leg.invariant.sent c.in_err-put_nests_of_leg.ensures.cut)

pub loop-leg-preserved : goal.loop-leg-preserved
loop-leg-preserved g c =
    let net = c.args.net.now in
    let held = g.K.Sink.held in
    let lines : ℕ → List ℕ = λ (i : ℕ). flat_map (nest_line net c.args.certificate.now i) (products_on (inventory_of net) i) in
    record {
      sent = line-sent (held c.args.sink.now) (held c.loop-leg.sink) (held c.put_nests_of_leg.new.sink) lines c.loop-leg.leg c.loop-leg.invariant.sent c.in_ok-put_nests_of_leg.ensures.whole;
      count = omega (arith, c.loop-leg.invariant.count, c.in_ok-put_nests_of_leg.ensures.cause.done);
    }
