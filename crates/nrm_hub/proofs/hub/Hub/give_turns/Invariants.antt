-- The world went on, and so many clients of the list had their turn.
use Rattle.std.proofs.Common.{◌≡◌, [], true}
use Rattle.nrm_hub.specs.Goes.{Goes}
use Rattle.nrm_hub.specs.Hub.{takes_lines}
use Rattle.nrm_hub.specs.Inner.Seats.{AreSo}
use Rattle.nrm_hub.specs.Waiting.{HadTurn}
use Rattle.nrm_hub.proofs.hub.Hub.give_turns.Given as goal

abbrev pub invariant-loop-at : goal.invariant-loop-at
invariant-loop-at l = record {
  goes : Goes l.fn.self l.self [] [];
  lines : takes_lines l.self.phase ≡ true;
  so : AreSo HadTurn l.fn.self.clients l.self.clients l.listed l.at;
}
