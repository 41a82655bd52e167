-- What waits is behind the frames that were done with so far.
use Rattle.std.proofs.Common.{ℕ, ◌≡◌, length}
use Rattle.nrm_control.specs.Standing.{ControlValue}
use Rattle.nrm_session.specs.Serving.{Streams}
use Rattle.nrm_desks_cli.specs.Inner.Serving.{Stands, at_sink}
use Rattle.nrm_desks_cli.specs.Served.{IsOpen}
use Rattle.nrm_desks_cli.proofs.serving.handle_all.Given as goal

abbrev pub invariant-loop-handled : goal.invariant-loop-handled
invariant-loop-handled g l = record {
  stands : (start : ControlValue) (before at : Streams) (taken : ℕ)
      → Stands start before (at_sink at (g.K.Sink.held l.initial.sink) (g.K.Sink.faults l.initial.sink)) l.initial.hub l.initial.incoming taken
      → Stands start before (at_sink at (g.K.Sink.held l.sink) (g.K.Sink.faults l.sink)) l.hub l.incoming taken;
  same : g.K.Sink.faults l.sink ≡ g.K.Sink.faults l.initial.sink;
  open_still : IsOpen l.hub;
}

abbrev pub decreases-loop-handled : goal.decreases-loop-handled
decreases-loop-handled g l = length l.incoming
