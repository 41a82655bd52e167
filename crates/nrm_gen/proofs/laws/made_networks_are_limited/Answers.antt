-- The law holds by a test of all but what is drawn.
use Rattle.nrm_gen.proofs.Within.{limited}
use Rattle.nrm_gen.proofs.laws.made_networks_are_limited.Goals as goal

pub returns : goal.returns
returns c = limited
