use Rattle.nrm_plan.proofs.Plans.{one-plan}
use Rattle.nrm_plan.proofs.laws.plans_are_determined.Goals as goal

pub returns : goal.returns
returns c = one-plan
