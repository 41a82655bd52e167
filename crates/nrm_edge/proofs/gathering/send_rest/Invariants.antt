-- What went out and what waits are together what they were.
use Rattle.std.proofs.Common.{◌≡◌, ◌≤◌, ◌-◌, drop, length}
use Rattle.std.specs.Io.KnownBytes.{append_known, Keeps}
use Rattle.nrm_edge.proofs.gathering.send_rest.Given as goal

-- what the other sink holds and what is left to send make what they made at first, and the count stands as it did
abbrev pub invariant-loop-sent : goal.invariant-loop-sent
invariant-loop-sent g l = record {
  within : l.sent ≤ length l.bytes;
  bytes : Keeps (append_known (g.K.Sink.held l.initial.sink) (drop l.initial.sent l.bytes))
      (append_known (g.K.Sink.held l.sink) (drop l.sent l.bytes));
  count : g.K.Sink.faults l.sink ≡ g.K.Sink.faults l.initial.sink;
}

abbrev pub decreases-loop-sent : goal.decreases-loop-sent
decreases-loop-sent g l = length l.bytes - l.sent
