use Rattle.nrm_lp.proofs.Audited.{optimal_certify as the_law}
use Rattle.nrm_lp.proofs.laws.optimal_certify.Goals as goal

pub returns : goal.returns
returns c = the_law
