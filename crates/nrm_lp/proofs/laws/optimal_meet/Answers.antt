use Rattle.nrm_lp.proofs.Audited.{optimal_meet as the_law}
use Rattle.nrm_lp.proofs.laws.optimal_meet.Goals as goal

pub returns : goal.returns
returns c = the_law
