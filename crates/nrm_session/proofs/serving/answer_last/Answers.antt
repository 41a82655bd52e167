-- The last line was answered, or none was left.
use Rattle.std.proofs.Common.{◌∷◌, []}
use Rattle.nrm_session.proofs.Clerks.{answers-nothing, sent-cut}
use Rattle.nrm_session.proofs.serving.answer_last.Goals as goal

pub returns-in-None-clause-whole : goal.returns-in-None-clause-whole
returns-in-None-clause-whole g c =
    rw c.in-None.is (answers-nothing g.C.Clerk.whole g.C.Clerk.cut g.C.Clerk.ready c.requires.meanings
    (c.args.controller.now, c.args.beside.now) (g.K.Sink.held c.args.sink.now) (g.K.Sink.faults c.args.sink.now) c.requires.ready)

pub returns-in_ok-answer-in-Some-clause-cut : goal.returns-in_ok-answer-in-Some-clause-cut
returns-in_ok-answer-in-Some-clause-cut g c =
    rw c.in-Some.is (sent-cut g.C.Clerk.whole g.C.Clerk.cut g.C.Clerk.ready c.requires.meanings (c.args.controller.now, c.args.beside.now)
    (c.answer.new.controller, c.answer.new.beside) (c.in-Some.command ∷ [])
    (g.K.Sink.held c.args.sink.now) (g.K.Sink.held c.answer.new.sink) (g.K.Sink.held c.flush.new.self)
    (g.K.Sink.faults c.args.sink.now) (g.K.Sink.faults c.answer.new.sink) (g.K.Sink.faults c.flush.new.self) c.flush.result
    c.in_ok-answer-in-Some.ensures.whole c.flush.ensures.bytes c.flush.ensures.cause)
