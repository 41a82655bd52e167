use Rattle.nrm_dual.proofs.PassesCertify.{certified_passes}
use Rattle.nrm_dual.proofs.laws.certified_pass.Goals as goal

pub returns : goal.returns
returns c = certified_passes
