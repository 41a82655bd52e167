-- One piece goes on with what was taken so far, and each way out is an end.
use Rattle.std.proofs.Common.{ℕ, ◌+◌, List, take, arith, subst}
use Rattle.std.proofs.lemmas.List.{length-take-le}
use Rattle.nrm_session.specs.Serving.{streams}
use Rattle.nrm_session.proofs.SessionEnds.{input-ended, nothing-taken, one-too-many, piece-cut, piece-taken, sent-before, Taken}
use Rattle.nrm_session.proofs.serving.serve_by.Goals as goal

pub loop-taken-init : goal.loop-taken-init
loop-taken-init g c = record {
  short = omega arith;
  so_far = nothing-taken g.C.Clerk.whole g.C.Clerk.cut g.C.Clerk.ready
      c.requires.meanings (c.args.controller.now, c.args.beside.now) _ c.new-splitter.result c.new-splitter.ensures c.requires.ready;
  sent = λ s. s;
}

pub loop-taken-preserved : goal.loop-taken-preserved
loop-taken-preserved g c =
    let l = c.loop-taken in
    let at = streams g.S.Source.coming g.S.Source.faults g.K.Sink.held g.K.Sink.faults in
    let piece : List ℕ = take c.in-Ok.count c.take_front.new.buffer in
    let count = length-take-le c.in-Ok.count c.take_front.new.buffer c.in-Ok.ensures.within in
    record {
      short = omega (arith, c.in-Ok.ensures.few, l.invariant.short);
      so_far = subst (λ (n : ℕ). Taken g.C.Clerk.whole g.C.Clerk.ready (c.args.controller.now, c.args.beside.now)
          (c.answer_piece.new.controller, c.answer_piece.new.beside) (at c.args.source.now c.args.sink.now)
          (at c.take_front.new.source c.answer_piece.new.sink) c.answer_piece.new.splitter (l.taken + n)) count
          (piece-taken g.C.Clerk.whole g.C.Clerk.cut g.C.Clerk.ready c.requires.meanings (c.args.controller.now, c.args.beside.now)
          (l.controller, l.beside) (c.answer_piece.new.controller, c.answer_piece.new.beside) (at c.args.source.now c.args.sink.now)
          (at l.source l.sink) (at c.take_front.new.source c.answer_piece.new.sink)
          l.splitter c.answer_piece.new.splitter l.taken l.invariant.so_far piece c.in-Ok.ensures.bytes.0 c.in-Ok.ensures.cause.done
          c.in-Ok-answer_piece.ensures.whole);
      sent = λ s. c.in-Ok-answer_piece.ensures.sent (l.invariant.sent s);
    }

pub returns-then-count-eq0-clause-serves : goal.returns-then-count-eq0-clause-serves
returns-then-count-eq0-clause-serves g c =
    let l = c.loop-taken in
    let at = streams g.S.Source.coming g.S.Source.faults g.K.Sink.held g.K.Sink.faults in
    input-ended g.C.Clerk.whole g.C.Clerk.cut g.C.Clerk.ready c.requires.meanings (c.args.controller.now, c.args.beside.now)
    (l.controller, l.beside) (c.end_input.new.controller, c.end_input.new.beside) (at c.args.source.now c.args.sink.now)
    (at l.source l.sink) (at c.take_front.new.source c.end_input.new.sink)
    l.splitter l.taken c.args.limit l.invariant.so_far l.invariant.short (c.in-Ok.ensures.end c.if-count-eq0.true).0
    (c.in-Ok.ensures.end c.if-count-eq0.true).1 c.finish.result c.finish.ensures.gives c.end_input.result c.end_input.ensures.ends

pub returns-in-Err-answer_piece-clause-serves : goal.returns-in-Err-answer_piece-clause-serves
returns-in-Err-answer_piece-clause-serves g c =
    let l = c.loop-taken in
    let at = streams g.S.Source.coming g.S.Source.faults g.K.Sink.held g.K.Sink.faults in
    let piece : List ℕ = take c.in-Ok.count c.take_front.new.buffer in
    let count = length-take-le c.in-Ok.count c.take_front.new.buffer c.in-Ok.ensures.within in
    (piece-cut g.C.Clerk.whole g.C.Clerk.cut g.C.Clerk.ready c.requires.meanings (c.args.controller.now, c.args.beside.now)
    (l.controller, l.beside) (c.answer_piece.new.controller, c.answer_piece.new.beside) (at c.args.source.now c.args.sink.now)
    (at l.source l.sink) (at c.take_front.new.source c.answer_piece.new.sink)
    l.splitter l.splitter l.taken l.invariant.so_far piece c.in-Ok.ensures.bytes.0 c.in-Ok.ensures.cause.done c.args.limit
    (omega (arith, count, c.in-Ok.ensures.few, l.invariant.short)) c.in-Err-answer_piece.ensures.cut).0

pub returns-in-Ok-eq0-clause-serves : goal.returns-in-Ok-eq0-clause-serves
returns-in-Ok-eq0-clause-serves g c =
    let l = c.loop-taken in
    let at = streams g.S.Source.coming g.S.Source.faults g.K.Sink.held g.K.Sink.faults in
    input-ended g.C.Clerk.whole g.C.Clerk.cut g.C.Clerk.ready c.requires.meanings (c.args.controller.now, c.args.beside.now)
    (l.controller, l.beside) (c.end_input-in-Ok-eq0.new.controller, c.end_input-in-Ok-eq0.new.beside)
    (at c.args.source.now c.args.sink.now) (at l.source l.sink) (at c.take_front-2.new.source c.end_input-in-Ok-eq0.new.sink)
    l.splitter l.taken c.args.limit l.invariant.so_far l.invariant.short (c.in-Ok-eq0.ensures.end c.in-Ok-eq0.field-0-test).0
    (c.in-Ok-eq0.ensures.end c.in-Ok-eq0.field-0-test).1 c.finish-in-Ok-eq0.result c.finish-in-Ok-eq0.ensures.gives
    c.end_input-in-Ok-eq0.result c.end_input-in-Ok-eq0.ensures.ends

pub returns-in-Ok-take_front-clause-serves : goal.returns-in-Ok-take_front-clause-serves
returns-in-Ok-take_front-clause-serves g c =
    let l = c.loop-taken in
    let at = streams g.S.Source.coming g.S.Source.faults g.K.Sink.held g.K.Sink.faults in
    one-too-many g.C.Clerk.whole g.C.Clerk.cut g.C.Clerk.ready c.requires.meanings (c.args.controller.now, c.args.beside.now)
    (l.controller, l.beside) (at c.args.source.now c.args.sink.now) (at l.source l.sink) (g.S.Source.coming c.take_front-2.new.source)
    l.splitter l.taken c.args.limit l.invariant.so_far
    (omega (arith, c.loop-taken-test.false, l.invariant.short)) (take c.in-Ok-take_front.field-0 c.take_front-2.new.buffer)
    c.in-Ok-take_front.ensures.bytes.0
    (omega (
      arith,
      length-take-le c.in-Ok-take_front.field-0 c.take_front-2.new.buffer c.in-Ok-take_front.ensures.within,
      c.in-Ok-take_front.ensures.few,
      c.in-Ok-take_front.field-0-is,
    ))

pub returns-then-count-eq0-clause-sent : goal.returns-then-count-eq0-clause-sent
returns-then-count-eq0-clause-sent g c = sent-before _ _ _ c.loop-taken.invariant.sent c.end_input.result c.end_input.ensures.sent

pub returns-in-Ok-eq0-clause-sent : goal.returns-in-Ok-eq0-clause-sent
returns-in-Ok-eq0-clause-sent g c = sent-before _ _ _ c.loop-taken.invariant.sent c.end_input-in-Ok-eq0.result
    c.end_input-in-Ok-eq0.ensures.sent
