-- The facts of a path are those of each of its tableaux.
use Rattle.nrm_lp.proofs.Facts.{path_has_facts}
use Rattle.nrm_tableau.proofs.laws.on_path_has_facts.Goals as goal

pub returns : goal.returns
returns c = λ s h. path_has_facts s.program h.pivots s.table h.reached.path
