use Rattle.std.proofs.lemmas.Result.{on_err_weaker}
use Rattle.nrm_edge.proofs.Sent.{AppendsFront-after}
use Rattle.nrm_frames.proofs.outgoing.put_with.Goals as goal

pub returns-clause-cut : goal.returns-clause-cut
returns-clause-cut g c =
    let held = g.K.Sink.held in
    on_err_weaker c.put_all-2.result
    (λ front.
    AppendsFront-after (held c.args.sink.now) (held c.put_all.new.sink) (held c.put_all-2.new.sink) c.args.line.now c.args.payload.now
    c.in_ok-put_all.ensures.whole front)
    c.put_all-2.ensures.cut
