use Rattle.nrm_dual.proofs.PassesCertify.{passing_certifies}
use Rattle.nrm_dual.proofs.laws.passes_certify.Goals as goal

pub returns : goal.returns
returns c = passing_certifies
