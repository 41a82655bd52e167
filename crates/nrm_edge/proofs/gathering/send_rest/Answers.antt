-- A put moves a front of what waits to what went out.
use Rattle.std.proofs.Common.{arith}
use Rattle.nrm_edge.proofs.Waiting.{sent-more}
use Rattle.nrm_edge.proofs.gathering.send_rest.Goals as goal

pub loop-sent-preserved : goal.loop-sent-preserved
loop-sent-preserved g c =
    record {
      within = omega (arith, c.in_ok-count.ensures.room);
      bytes = sent-more (g.K.Sink.held c.args.sink.now) (g.K.Sink.held c.loop-sent.sink) (g.K.Sink.held c.put.new.self) _ c.args.bytes.now
          c.loop-sent.sent c.in_ok-count.count c.loop-sent.invariant.bytes c.in_ok-count.ensures.bytes;
      count = omega (arith, c.in_ok-count.ensures.cause.done, c.loop-sent.invariant.count);
    }
