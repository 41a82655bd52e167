use Rattle.nrm_plan.proofs.Looked.{nests-defined}
use Rattle.nrm_plan.proofs.laws.nests_are_those_defined.Goals as goal

pub returns : goal.returns
returns c = nests-defined
