use Rattle.nrm_plan.proofs.Plans.{optimal}
use Rattle.nrm_plan.proofs.laws.plans_are_optimal.Goals as goal

pub returns : goal.returns
returns c = optimal
