use Rattle.std.proofs.Common.{◌≡◌, ◌∙◌, ℕ, List, None, Some, sym, subst}
use Rattle.nrm_desks_cli.specs.Inner.Serving.{HandlesFirst, at_sink, end_of}
use Rattle.nrm_desks_cli.proofs.Serves.{faults-as, first-ends, first-next, none-waits}
use Rattle.nrm_desks_cli.proofs.serving.handle_all.Goals as goal

pub loop-handled-preserved : goal.loop-handled-preserved
loop-handled-preserved g c =
    let l = c.loop-handled in
    let h = c.handle_first in
    let held = g.K.Sink.held in
    let faults = g.K.Sink.faults in
    let first = subst (λ (w : List ℕ). HandlesFirst l.hub h.new.hub w (held l.sink) (held h.new.sink) (faults l.sink) (faults h.new.sink) h.result)
    c.waiting.ensures h.ensures.first in
    let is : h.result ≡ Some (c.in-Some.handled, c.in-Some.used) = c.in-Some.is in
    let goes : end_of c.in-Some.handled ≡ None = sym c.in_default-end_of.ensures in
    let next = first-next l.hub h.new.hub l.incoming (held l.sink) (held h.new.sink) (faults l.sink) (faults h.new.sink) h.result c.in-Some.handled c.in-Some.used
    c.used.new.self is goes first h.ensures.still c.used.ensures in
    record {
      stands = λ start before at taken stands. next.stands start before at taken (l.invariant.stands start before at taken stands);
      same = next.faults_same ∙ l.invariant.same;
      open_still = next.open_still;
    }

pub returns-in-Some-end_of-clause-stands : goal.returns-in-Some-end_of-clause-stands
returns-in-Some-end_of-clause-stands g c start before at taken stands =
    let l = c.loop-handled in
    let h = c.handle_first in
    let held = g.K.Sink.held in
    let faults = g.K.Sink.faults in
    let first = subst (λ (w : List ℕ). HandlesFirst l.hub h.new.hub w (held l.sink) (held h.new.sink) (faults l.sink) (faults h.new.sink) h.result)
    c.waiting.ensures h.ensures.first in
    faults-as start before (at_sink at (held h.new.sink) (faults h.new.sink)) (faults l.sink) (faults c.args.sink.now) h.new.hub l.incoming taken
    (Some c.in-Some-end_of.end) l.invariant.same
    (first-ends l.hub h.new.hub l.incoming (held l.sink) (held h.new.sink) (faults l.sink) (faults h.new.sink) start before at taken
    (l.invariant.stands start before at taken stands) h.result c.in-Some.handled c.in-Some.used c.in-Some-end_of.end h.new.hub l.incoming taken c.in-Some.is (sym c.in-Some-end_of.ensures) first)

pub returns-clause-stands : goal.returns-clause-stands
returns-clause-stands g c start before at taken stands =
    let l = c.loop-handled in
    let h = c.handle_first in
    let held = g.K.Sink.held in
    let faults = g.K.Sink.faults in
    let first = subst (λ (w : List ℕ). HandlesFirst l.hub h.new.hub w (held l.sink) (held h.new.sink) (faults l.sink) (faults h.new.sink) h.result)
    c.waiting.ensures h.ensures.first in
    let none : h.result ≡ None = c.in_default.is in
    faults-as start before (at_sink at (held h.new.sink) (faults h.new.sink)) (faults l.sink) (faults c.args.sink.now) h.new.hub l.incoming taken None
    l.invariant.same
    (none-waits l.hub h.new.hub l.incoming (held l.sink) (held h.new.sink) (faults l.sink) (faults h.new.sink)
    (subst (HandlesFirst l.hub h.new.hub l.incoming (held l.sink) (held h.new.sink) (faults l.sink) (faults h.new.sink)) none first)
    start before at taken (l.invariant.stands start before at taken stands))
