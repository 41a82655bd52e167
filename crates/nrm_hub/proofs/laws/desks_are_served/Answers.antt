-- The law is a lemma.
use Rattle.nrm_hub.proofs.ClientsServed.{desks-served}
use Rattle.nrm_hub.proofs.laws.desks_are_served.Goals as goal

pub returns : goal.returns
returns c = desks-served
