use Rattle.nrm_lp.proofs.Ends.{every_path_ends as the_law}
use Rattle.nrm_lp.proofs.laws.every_path_ends.Goals as goal

pub returns : goal.returns
returns c = λ limit room a. the_law limit room a
