use Rattle.nrm_lp.proofs.Path.{path_ends_optimal}
use Rattle.nrm_lp.proofs.laws.ends_optimal.Goals as goal

pub returns : goal.returns
returns c = λ a ok t last. path_ends_optimal a ok t last
