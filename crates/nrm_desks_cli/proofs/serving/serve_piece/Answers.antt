use Rattle.nrm_desks_cli.proofs.Serves.{due-sent, due-unsent, ends-with}
use Rattle.nrm_desks_cli.proofs.serving.serve_piece.Goals as goal

pub returns-in-Some-clause-stands : goal.returns-in-Some-clause-stands
returns-in-Some-clause-stands g c start before at taken stands =
    let h = c.handle_all.new in
    ends-with start before at (g.K.Sink.held h.sink) (g.K.Sink.held c.end_with.new.sink) (g.K.Sink.faults c.args.sink.now) (g.K.Sink.faults h.sink)
    (g.K.Sink.faults c.end_with.new.sink) h.hub h.incoming taken c.in-Some.end c.end_with.result c.end_with.ensures.ends (c.in-Some.ensures.stands start before at taken stands)

pub returns-in-Ok-clause-stands : goal.returns-in-Ok-clause-stands
returns-in-Ok-clause-stands g c start before at taken stands =
    let h = c.handle_all.new in
    let s = c.send_due.new in
    due-sent start before at (g.K.Sink.held h.sink) (g.K.Sink.held s.sink) (g.K.Sink.faults c.args.sink.now) (g.K.Sink.faults h.sink) (g.K.Sink.faults s.sink)
    h.hub s.hub h.incoming taken (c.in_default.ensures.stands start before at taken stands) c.in-Ok.ensures.puts c.in-Ok.ensures.done c.in-Ok.ensures.cause.done

pub returns-in-Err-clause-stands : goal.returns-in-Err-clause-stands
returns-in-Err-clause-stands g c start before at taken stands =
    let h = c.handle_all.new in
    let s = c.send_due.new in
    due-unsent start before at (g.K.Sink.held h.sink) (g.K.Sink.held s.sink) (g.K.Sink.faults c.args.sink.now) (g.K.Sink.faults h.sink) (g.K.Sink.faults s.sink)
    h.hub s.hub h.incoming taken (c.in_default.ensures.stands start before at taken stands) c.in-Err.ensures.cut c.in-Err.ensures.cause.failed s.hub h.incoming taken
