use Rattle.nrm_fraction.proofs.Reduced.{num_is}
use Rattle.nrm_fraction.proofs.fraction.Fraction.num.Goals as goal

pub returns-clause-value : goal.returns-clause-value
returns-clause-value c = num_is _ _ _ c.self.invariant.0 c.self.invariant.2 c.self.view_is
