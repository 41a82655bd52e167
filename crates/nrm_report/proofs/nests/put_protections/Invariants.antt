use Rattle.std.proofs.Common.{◌≡◌, flat_map}
use Rattle.std.specs.Io.KnownBytes.{Appends}
use Rattle.std.specs.List.{range_with_len}
use Rattle.nrm_report.specs.Inner.Nests.{protections_line}
use Rattle.nrm_report.proofs.nests.put_protections.Given as goal

-- the lines of the legs so far went out, and the count stands as it did
abbrev pub invariant-loop-leg : goal.invariant-loop-leg
invariant-loop-leg g l = record {
  sent : Appends (g.K.Sink.held l.initial.sink) (g.K.Sink.held l.sink) (flat_map (protections_line l.net l.plan) (range_with_len 0 l.leg));
  count : g.K.Sink.faults l.sink ≡ g.K.Sink.faults l.initial.sink;
}
