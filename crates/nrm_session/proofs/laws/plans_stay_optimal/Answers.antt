-- The plan in force is one of the network.
use Rattle.nrm_session.proofs.InForce.{plans-stay_optimal}
use Rattle.nrm_session.proofs.laws.plans_stay_optimal.Goals as goal

pub returns : goal.returns
returns c = plans-stay_optimal
