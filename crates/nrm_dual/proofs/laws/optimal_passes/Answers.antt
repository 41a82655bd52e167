use Rattle.nrm_dual.proofs.PassesCertify.{optimal_passes}
use Rattle.nrm_dual.proofs.laws.optimal_passes.Goals as goal

pub returns : goal.returns
returns c = optimal_passes
