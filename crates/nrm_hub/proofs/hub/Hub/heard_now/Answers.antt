-- Who isn't in the list has nothing to be told.
use Rattle.nrm_hub.proofs.DuePlaces.{listed-told}
use Rattle.nrm_hub.proofs.hub.Hub.heard_now.Goals as goal

pub returns-clause-listed : goal.returns-clause-listed
returns-clause-listed c =
    listed-told c.self.inside.clients.items c.self.inside.due c.self.inside.heard c.copied.result c.copied.ensures c.self.invariant.1
