-- The whole lines of what was taken so far were answered, and no more than the limit was taken.
use Rattle.std.proofs.Common.{[], ◌≡◌, ◌≤◌, ◌-◌}
use Rattle.nrm_session.specs.Serving.{streams}
use Rattle.nrm_session.proofs.SessionEnds.{Taken}
use Rattle.nrm_session.proofs.serving.serve_by.Given as goal

-- no more than the limit was taken, the whole lines of it were answered, and that was sent on
abbrev pub invariant-loop-taken : goal.invariant-loop-taken
invariant-loop-taken g l =
    let at = streams g.S.Source.coming g.S.Source.faults g.K.Sink.held g.K.Sink.faults in record {
      short : l.taken ≤ l.limit;
      so_far : Taken g.C.Clerk.whole g.C.Clerk.ready (l.initial.controller, l.initial.beside) (l.controller, l.beside)
          (at l.initial.source l.initial.sink) (at l.source l.sink) l.splitter l.taken;
      sent : g.K.Sink.unsent l.initial.sink ≡ [] → g.K.Sink.unsent l.sink ≡ [];
    }

abbrev pub decreases-loop-taken : goal.decreases-loop-taken
decreases-loop-taken g l = l.limit - l.taken
