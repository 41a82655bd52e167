use Rattle.nrm_lp.proofs.Certify.{certifies}
use Rattle.nrm_lp.proofs.laws.closes_certify.Goals as goal

pub returns : goal.returns
returns c = λ limit room a ok n t closes. certifies limit room a ok n t closes
