use Rattle.nrm_fraction.proofs.Running.{IsRun}
use Rattle.nrm_fraction.proofs.over.common_denominator.Given as goal

abbrev pub invariant-loop-fraction : goal.invariant-loop-fraction
invariant-loop-fraction l = IsRun l.fractions l.fraction-index l.den
