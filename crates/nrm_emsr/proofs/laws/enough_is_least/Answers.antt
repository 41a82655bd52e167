use Rattle.nrm_emsr.proofs.Least.{enough-least}
use Rattle.nrm_emsr.proofs.Whole.{whole-suffices}
use Rattle.nrm_emsr.proofs.laws.enough_is_least.Goals as goal

pub returns-clause-least : goal.returns-clause-least
returns-clause-least c = enough-least

pub returns-clause-some : goal.returns-clause-some
returns-clause-some c = whole-suffices
