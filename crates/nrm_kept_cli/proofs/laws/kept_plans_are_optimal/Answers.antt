-- What is printed of a plan is optimal over a store too.
use Rattle.nrm_kept_cli.proofs.KeptLaws.{plans-optimal}
use Rattle.nrm_kept_cli.proofs.laws.kept_plans_are_optimal.Goals as goal

pub returns : goal.returns
returns c = plans-optimal
