use Rattle.nrm_lp.proofs.Ends.{ends_once}
use Rattle.nrm_lp.proofs.laws.paths_end_once.Goals as goal

pub returns : goal.returns
returns c = λ limit a. ends_once limit a
