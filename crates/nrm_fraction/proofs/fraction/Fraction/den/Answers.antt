use Rattle.nrm_fraction.proofs.Reduced.{den_is}
use Rattle.nrm_fraction.proofs.fraction.Fraction.den.Goals as goal

pub returns-clause-value : goal.returns-clause-value
returns-clause-value c = den_is _ _ _ c.self.invariant.0 c.self.invariant.2 c.self.view_is
