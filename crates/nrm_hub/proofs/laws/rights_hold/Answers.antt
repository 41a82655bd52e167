-- The law is a lemma.
use Rattle.nrm_hub.proofs.RegisterRights.{rights-hold}
use Rattle.nrm_hub.proofs.laws.rights_hold.Goals as goal

pub returns : goal.returns
returns c = rights-hold
