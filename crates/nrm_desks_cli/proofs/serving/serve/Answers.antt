use Rattle.std.proofs.Common.{ℕ, ◌≡◌, ◌∙◌, ◌+◌, List, None, Some, ap, arith, inl, refl, subst, sym}
use Rattle.nrm_frames.specs.Cutting.{cut_of}
use Rattle.nrm_session.specs.Serving.{Streams, streams}
use Rattle.nrm_desks_cli.specs.Inner.Serving.{Stands}
use Rattle.nrm_desks_cli.specs.declared.serving.ServeEnd.TheVariants as end
use Rattle.nrm_desks_cli.specs.Served.{IsDone}
use Rattle.nrm_desks_cli.proofs.Serves.{counted-all, piece-ends, piece-sank, take-ends, take-on}
use Rattle.nrm_desks_cli.proofs.Worlds.{stands-first}
use Rattle.nrm_desks_cli.proofs.serving.serve.Goals as goal

pub loop-taken-init : goal.loop-taken-init
loop-taken-init g c =
    let at : Streams = streams g.S.Source.coming g.S.Source.faults g.K.Sink.held g.K.Sink.faults c.args.source.now c.args.sink.now in
    let control = c.args.hub.now.register.control in
    record {
      stands = subst (λ (w : List ℕ). Stands control at at c.args.hub.now w 0) (sym c.requires.nothing) (stands-first control at c.args.hub.now c.requires.begins);
      waits = ap cut_of c.requires.nothing;
      done = subst IsDone (sym c.requires.begins) (inl refl);
      source_same = refl;
      sink_same = refl;
      sent = λ s. s;
    }

pub returns-in-Err-clause-serves : goal.returns-in-Err-clause-serves
returns-in-Err-clause-serves g c =
    let l = c.loop-taken in
    let at = streams g.S.Source.coming g.S.Source.faults g.K.Sink.held g.K.Sink.faults in
    take-ends c.args.hub.now.register.control (at c.args.source.now c.args.sink.now) (at l.source l.sink) l.hub l.incoming c.take_more.new.incoming l.taken
    (g.S.Source.coming c.take_more.new.source) (g.S.Source.faults c.take_more.new.source) l.invariant.stands c.in-Err.end c.in-Err.ensures l.invariant.source_same
    l.invariant.waits l.invariant.done

pub returns-in-Some-clause-serves : goal.returns-in-Some-clause-serves
returns-in-Some-clause-serves g c =
    let l = c.loop-taken in
    let p = c.serve_piece.new in
    let at = streams g.S.Source.coming g.S.Source.faults g.K.Sink.held g.K.Sink.faults in
    let control = c.args.hub.now.register.control in
    let before : Streams = at c.args.source.now c.args.sink.now in
    let stands = take-on control before (at l.source l.sink) l.hub l.incoming c.take_more.new.incoming l.taken
    (g.S.Source.coming c.take_more.new.source) (g.S.Source.faults c.take_more.new.source) l.invariant.stands c.in-Ok.count c.in-Ok.ensures in
    piece-ends control before (at c.take_more.new.source p.sink) (g.K.Sink.faults l.sink) p.hub p.incoming (l.taken + c.in-Ok.count) c.in-Some.end
    (c.in-Some.ensures.stands control before (at c.take_more.new.source l.sink) (l.taken + c.in-Ok.count) stands) l.invariant.sink_same

pub returns-in-Some-clause-sink : goal.returns-in-Some-clause-sink
returns-in-Some-clause-sink g c unfailed =
    let l = c.loop-taken in
    let p = c.serve_piece.new in
    let at = streams g.S.Source.coming g.S.Source.faults g.K.Sink.held g.K.Sink.faults in
    let control = c.args.hub.now.register.control in
    let before : Streams = at c.args.source.now c.args.sink.now in
    let stands = take-on control before (at l.source l.sink) l.hub l.incoming c.take_more.new.incoming l.taken
    (g.S.Source.coming c.take_more.new.source) (g.S.Source.faults c.take_more.new.source) l.invariant.stands c.in-Ok.count c.in-Ok.ensures in
    piece-sank control before (at c.take_more.new.source p.sink) (g.K.Sink.faults l.sink) p.hub p.incoming (l.taken + c.in-Ok.count) c.in-Some.end
    (c.in-Some.ensures.stands control before (at c.take_more.new.source l.sink) (l.taken + c.in-Ok.count) stands) unfailed ∙ l.invariant.sink_same

pub loop-taken-preserved : goal.loop-taken-preserved
loop-taken-preserved g c =
    let l = c.loop-taken in
    let p = c.serve_piece.new in
    let at = streams g.S.Source.coming g.S.Source.faults g.K.Sink.held g.K.Sink.faults in
    let control = c.args.hub.now.register.control in
    let before : Streams = at c.args.source.now c.args.sink.now in
    let stands = take-on control before (at l.source l.sink) l.hub l.incoming c.take_more.new.incoming l.taken
    (g.S.Source.coming c.take_more.new.source) (g.S.Source.faults c.take_more.new.source) l.invariant.stands c.in-Ok.count c.in-Ok.ensures in
    let (on, cut, sank) = c.in_default.ensures.stands control before (at c.take_more.new.source l.sink) (l.taken + c.in-Ok.count) stands in
    record {
      stands = on;
      waits = cut;
      done = c.in_default.ensures.done refl;
      source_same = c.in-Ok.ensures.3 ∙ l.invariant.source_same;
      sink_same = sank ∙ l.invariant.sink_same;
      sent = λ _. c.in_default.ensures.sent (λ (never : None ≡ Some end.WriteFault). cc);
    }

pub returns-clause-serves : goal.returns-clause-serves
returns-clause-serves g c =
    let l = c.loop-taken in
    let at = streams g.S.Source.coming g.S.Source.faults g.K.Sink.held g.K.Sink.faults in
    counted-all c.args.hub.now.register.control (at c.args.source.now c.args.sink.now) (at l.source l.sink) l.hub l.incoming l.taken
    l.invariant.stands l.invariant.waits l.invariant.done (omega (arith, c.loop-taken-test.false))
