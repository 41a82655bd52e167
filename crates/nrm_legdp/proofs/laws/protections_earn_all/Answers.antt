use Rattle.nrm_legdp.proofs.Values.{protections-earn-all}
use Rattle.nrm_legdp.proofs.laws.protections_earn_all.Goals as goal

pub returns : goal.returns
returns c = protections-earn-all
