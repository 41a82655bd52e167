use Rattle.nrm_plan.proofs.Plans.{has-a-plan}
use Rattle.nrm_plan.proofs.laws.each_has_a_plan.Goals as goal

pub returns : goal.returns
returns c = has-a-plan
