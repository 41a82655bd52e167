use Rattle.nrm_lp.proofs.Duality.{weak_duality}
use Rattle.nrm_lp.proofs.laws.weakly_dual.Goals as goal

pub returns : goal.returns
returns c = λ a ok q d x p allocation prices. weak_duality a q d x p ok allocation prices
