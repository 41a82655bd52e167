-- One call of the splitter goes on with what was answered so far.
use Rattle.std.proofs.Common.{refl}
use Rattle.nrm_edge.proofs.Sent.{OnErr-holds}
use Rattle.nrm_session.proofs.Pieces.{line-answered, line-cut, nothing-answered, no-command, nothing-more, piece-unsent, some-left}
use Rattle.nrm_session.proofs.serving.answer_piece.Goals as goal

pub loop-rest-init : goal.loop-rest-init
loop-rest-init g c = record {
  lines = nothing-answered g.C.Clerk.whole g.C.Clerk.cut g.C.Clerk.ready c.requires.meanings (c.args.controller.now, c.args.beside.now)
      c.args.splitter.now c.args.piece.now (g.K.Sink.held c.args.sink.now) (g.K.Sink.faults c.args.sink.now) c.requires.ready;
  quiet = λ none. refl;
}

pub returns-in_err-answer-clause-cut : goal.returns-in_err-answer-clause-cut
returns-in_err-answer-clause-cut g c =
    let held = g.K.Sink.held in
    let faults = g.K.Sink.faults in
    let l = c.loop-rest in
    let fed = c.feed-used in
    OnErr-holds c.from_residual.result
    (line-cut g.C.Clerk.whole g.C.Clerk.cut g.C.Clerk.ready c.requires.meanings (c.args.controller.now, c.args.beside.now)
    (l.controller, l.beside) (c.answer.new.controller, c.answer.new.beside) c.args.splitter.now l.splitter fed.new.self
    c.args.piece.now l.rest.now
    (held c.args.sink.now) (held l.sink) (held c.answer.new.sink) (faults c.args.sink.now) (faults l.sink) (faults c.answer.new.sink)
    l.invariant.lines fed.result.0 fed.result.1 fed.ensures.feeds
    c.in-Some.command c.in-Some.is c.in_err-answer.ensures.cut)

pub loop-rest-preserved-in-Some : goal.loop-rest-preserved-in-Some
loop-rest-preserved-in-Some g c =
    let held = g.K.Sink.held in
    let faults = g.K.Sink.faults in
    let l = c.loop-rest in
    let fed = c.feed-used in
    let (line, stands) = fed.ensures.stands in
    let lines = line-answered g.C.Clerk.whole g.C.Clerk.cut g.C.Clerk.ready c.requires.meanings (c.args.controller.now, c.args.beside.now)
    (l.controller, l.beside) (c.answer.new.controller, c.answer.new.beside) c.args.splitter.now l.splitter fed.new.self
    c.args.piece.now l.rest.now
    (held c.args.sink.now) (held l.sink) (held c.answer.new.sink) (faults c.args.sink.now) (faults l.sink) (faults c.answer.new.sink)
    l.invariant.lines fed.result.0 fed.result.1 fed.ensures.feeds
    c.in-Some.command c.in-Some.is line stands (some-left l.rest.now c.loop-rest-test.ensures) c.in_ok-answer.ensures.whole in
    record { lines = lines; quiet = λ none. absurd (cc) }

pub loop-rest-preserved : goal.loop-rest-preserved
loop-rest-preserved g c =
    let l = c.loop-rest in
    let fed = c.feed-used in
    let (line, stands) = fed.ensures.stands in
    let lines = nothing-more g.C.Clerk.whole g.C.Clerk.cut g.C.Clerk.ready c.requires.meanings (c.args.controller.now, c.args.beside.now)
    (l.controller, l.beside) c.args.splitter.now l.splitter fed.new.self c.args.piece.now l.rest.now
    (g.K.Sink.held c.args.sink.now) (g.K.Sink.held l.sink) (g.K.Sink.faults c.args.sink.now) (g.K.Sink.faults l.sink) l.invariant.lines
    fed.result.0 fed.result.1 fed.ensures.feeds (no-command fed.result.1 c.in_default.not-Some)
    line stands (some-left l.rest.now c.loop-rest-test.ensures) l.invariant.lines.so_far.answers.sound in
    record { lines = lines; quiet = l.invariant.quiet }

pub returns-in_err-flush-clause-cut : goal.returns-in_err-flush-clause-cut
returns-in_err-flush-clause-cut g c =
    let held = g.K.Sink.held in
    let faults = g.K.Sink.faults in
    let l = c.loop-rest in
    OnErr-holds c.from_residual-in_err-flush.result
    (piece-unsent g.C.Clerk.whole g.C.Clerk.cut g.C.Clerk.ready c.requires.meanings (c.args.controller.now, c.args.beside.now)
    (l.controller, l.beside) c.args.splitter.now l.splitter c.args.piece.now l.rest.now
    (held c.args.sink.now) (held l.sink) (held c.flush.new.self) (faults c.args.sink.now) (faults l.sink) (faults c.flush.new.self)
    l.invariant.lines c.loop-rest-test.ensures
    c.in_err-flush.ensures.bytes c.in_err-flush.ensures.cause.failed c.in_err-flush.ensures.cause.later)
