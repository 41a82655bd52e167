use Rattle.nrm_fraction.proofs.Numerators.{AreMade}
use Rattle.nrm_fraction.proofs.over.numerators.Given as goal

abbrev pub invariant-loop-fraction : goal.invariant-loop-fraction
invariant-loop-fraction l = AreMade l.fn.den l.fractions l.fraction-index l.made.items
