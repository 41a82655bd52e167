-- What came so far was served, and no whole frame waits.
use Rattle.std.proofs.Common.{◌≡◌, ◌-◌, []}
use Rattle.nrm_frames.specs.Cutting.{cut_of, part}
use Rattle.nrm_session.specs.Serving.{streams}
use Rattle.nrm_desks_cli.specs.Inner.Serving.{Stands}
use Rattle.nrm_desks_cli.specs.Served.{IsDone}
use Rattle.nrm_desks_cli.specs.declared.serving.TheConstants.{MOST_BYTES}
use Rattle.nrm_desks_cli.proofs.serving.serve.Given as goal

abbrev pub invariant-loop-taken : goal.invariant-loop-taken
invariant-loop-taken g l =
    let at = streams g.S.Source.coming g.S.Source.faults g.K.Sink.held g.K.Sink.faults in record {
      stands : Stands l.initial.hub.register.control (at l.initial.source l.initial.sink) (at l.source l.sink) l.hub l.incoming l.taken;
      waits : cut_of l.incoming ≡ part;
      done : IsDone l.hub;
      source_same : g.S.Source.faults l.source ≡ g.S.Source.faults l.initial.source;
      sink_same : g.K.Sink.faults l.sink ≡ g.K.Sink.faults l.initial.sink;
      sent : g.K.Sink.unsent l.initial.sink ≡ [] → g.K.Sink.unsent l.sink ≡ [];
    }

abbrev pub decreases-loop-taken : goal.decreases-loop-taken
decreases-loop-taken g l = MOST_BYTES - l.taken
