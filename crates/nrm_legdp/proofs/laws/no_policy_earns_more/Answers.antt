use Rattle.nrm_legdp.proofs.Values.{no-policy-earns-more}
use Rattle.nrm_legdp.proofs.laws.no_policy_earns_more.Goals as goal

pub returns : goal.returns
returns c = no-policy-earns-more
