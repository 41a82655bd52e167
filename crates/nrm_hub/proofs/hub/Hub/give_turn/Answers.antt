-- Its lines are taken, and then nothing changes.
use Rattle.std.proofs.Common.{[], subst, sym}
use Rattle.nrm_hub.specs.Goes.{Goes}
use Rattle.nrm_hub.specs.Hub.{HubValue}
use Rattle.nrm_hub.specs.Inner.Seats.{MakesSo}
use Rattle.nrm_hub.specs.Waiting.{HadTurn}
use Rattle.nrm_hub.proofs.hub.Hub.give_turn.Goals as goal

pub returns-clause-goes : goal.returns-clause-goes
returns-clause-goes c = subst (λ (h : HubValue). Goes c.args.self.now h [] []) (sym c.end_turn.ensures) c.use_lines.ensures.goes

pub returns-clause-turn : goal.returns-clause-turn
returns-clause-turn c =
    subst (λ (h : HubValue). MakesSo HadTurn c.args.self.now.clients h.clients c.args.place) (sym c.end_turn.ensures) c.use_lines.ensures.turn
