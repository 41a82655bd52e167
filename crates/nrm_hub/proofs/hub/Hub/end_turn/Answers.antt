-- The turn of the client may come, and nothing else changes.
use Rattle.std.proofs.Common.{List, Option, subst, sym}
use Rattle.nrm_hub.specs.Clients.{ClientValue}
use Rattle.nrm_hub.specs.Seats.{IsHub}
use Rattle.nrm_hub.proofs.DuePlaces.{more-due}
use Rattle.nrm_hub.proofs.hub.Hub.end_turn.Goals as goal

pub invariant_of-self : goal.invariant_of-self
invariant_of-self c =
    let clients = c.self.inside.clients.items in
    subst (λ (cs : List (Option ClientValue)). IsHub c.self.inside.register cs c.list_more.new.due c.self.inside.heard c.self.inside.phase)
    (sym c.list_more.ensures.same) (
      c.self.invariant.0,
      more-due clients c.self.inside.due c.list_more.new.due c.self.inside.heard c.list_more.ensures.still c.self.invariant.1,
      c.self.invariant.2,
      c.self.invariant.3,
    )
