-- The world went on, and the client at the place had its turn.
use Rattle.std.proofs.Common.{◌≡◌, [], true}
use Rattle.nrm_hub.specs.Goes.{Goes}
use Rattle.nrm_hub.specs.Hub.{takes_lines}
use Rattle.nrm_hub.specs.Inner.Seats.{MakesSo}
use Rattle.nrm_hub.specs.Waiting.{HadTurn}
use Rattle.nrm_hub.proofs.hub.Hub.use_lines.Given as goal

abbrev pub invariant-loop : goal.invariant-loop
invariant-loop l = record {
  goes : Goes l.fn.self l.self [] [];
  lines : takes_lines l.self.phase ≡ true;
  turn : MakesSo HadTurn l.fn.self.clients l.self.clients l.fn.place;
}
