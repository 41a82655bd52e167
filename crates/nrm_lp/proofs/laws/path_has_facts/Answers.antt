use Rattle.nrm_lp.proofs.Facts.{path_has_facts as the_law}
use Rattle.nrm_lp.proofs.laws.path_has_facts.Goals as goal

pub returns : goal.returns
returns c = the_law
