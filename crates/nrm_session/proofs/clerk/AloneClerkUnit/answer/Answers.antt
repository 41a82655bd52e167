-- A controller alone answers a line as its step says.
use Rattle.nrm_session.proofs.Answered.{answered, answered-cut}
use Rattle.nrm_session.proofs.clerk.AloneClerkUnit.answer.Goals as goal

pub returns-clause-whole : goal.returns-clause-whole
returns-clause-whole g c =
    let line = c.answer_line in
    answered (c.args.controller.now, c.args.beside.now) (line.new.controller, c.args.beside.now) c.args.command.now
    (g.K.Sink.held c.args.sink.now) (g.K.Sink.held line.new.sink)
    (g.K.Sink.faults c.args.sink.now) (g.K.Sink.faults line.new.sink) line.result line.ensures.sound line.ensures.whole line.ensures.cause

pub returns-clause-cut : goal.returns-clause-cut
returns-clause-cut g c =
    let line = c.answer_line in
    answered-cut (c.args.controller.now, c.args.beside.now) (line.new.controller, c.args.beside.now) c.args.command.now
    (g.K.Sink.held c.args.sink.now) (g.K.Sink.held line.new.sink)
    (g.K.Sink.faults c.args.sink.now) (g.K.Sink.faults line.new.sink) line.result line.ensures.sound line.ensures.cut line.ensures.cause
