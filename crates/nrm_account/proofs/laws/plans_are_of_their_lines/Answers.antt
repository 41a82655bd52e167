use Rattle.nrm_account.proofs.PlanMakers.{planned-by_that_line}
use Rattle.nrm_account.proofs.laws.plans_are_of_their_lines.Goals as goal

pub returns : goal.returns
returns c = planned-by_that_line
