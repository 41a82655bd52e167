use Rattle.std.proofs.Common.{◌∙◌, length, subst, arith}
use Rattle.std.specs.Io.KnownBytes.{Appends}
use Rattle.nrm_edge.specs.Pieces.{AppendsFront}
use Rattle.nrm_edge.proofs.Sent.{OnErr-holds}
use Rattle.nrm_report.specs.Inner.Nests.{protections_line}
use Rattle.nrm_report.proofs.NumberedLines.{line-cut, line-sent}
use Rattle.nrm_report.proofs.nests.put_protections.Goals as goal

pub returns-in_err-put_all-clause-cut : goal.returns-in_err-put_all-clause-cut
returns-in_err-put_all-clause-cut g c =
    let net = c.args.net.now in
    let held = g.K.Sink.held in
    let front = subst (AppendsFront (held c.loop-leg.sink) (held c.put_all.new.sink)) (c.bytes.ensures ∙ c.line_for_protections.ensures) c.in_err-put_all.ensures.cut in
    OnErr-holds c.from_residual.result
    (line-cut (held c.args.sink.now) (held c.loop-leg.sink) (held c.put_all.new.sink) (protections_line net c.args.plan.now) c.loop-leg.leg (length net.legs)
    (omega (arith, c.loop-leg-test.true, c.leg_count-leg-end.ensures.count)) c.loop-leg.invariant.sent front)

pub loop-leg-preserved : goal.loop-leg-preserved
loop-leg-preserved g c =
    let held = g.K.Sink.held in
    let next = subst (Appends (held c.loop-leg.sink) (held c.put_all.new.sink)) (c.bytes.ensures ∙ c.line_for_protections.ensures) c.in_ok-put_all.ensures.whole in
    record {
      sent = line-sent (held c.args.sink.now) (held c.loop-leg.sink) (held c.put_all.new.sink) (protections_line c.args.net.now c.args.plan.now) c.loop-leg.leg c.loop-leg.invariant.sent next;
      count = omega (arith, c.loop-leg.invariant.count, c.in_ok-put_all.ensures.cause.done);
    }
