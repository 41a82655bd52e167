-- So many clients of the list were told.
use Rattle.std.proofs.Common.{◌≡◌, []}
use Rattle.nrm_hub.specs.Goes.{Puts}
use Rattle.nrm_hub.specs.Inner.Seats.{AreSo}
use Rattle.nrm_hub.specs.Waiting.{IsTold}
use Rattle.nrm_hub.specs.declared.phase.Phase.TheVariants as phase
use Rattle.nrm_hub.proofs.hub.Hub.tell_listed.Given as goal

abbrev pub invariant-loop-at : goal.invariant-loop-at
invariant-loop-at g l = record {
  puts : Puts l.fn.self l.self [] (g.K.Sink.held l.fn.sink) (g.K.Sink.held l.sink);
  telling : l.self.phase ≡ phase.Telling;
  faults : g.K.Sink.faults l.sink ≡ g.K.Sink.faults l.fn.sink;
  so : AreSo IsTold l.fn.self.clients l.self.clients l.listed l.at;
}
