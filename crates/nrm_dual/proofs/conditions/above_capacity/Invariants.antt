use Rattle.std.proofs.Common.{◌≡◌, nat_abs, length}
use Rattle.nrm_lp.specs.Certified.{sizes}
use Rattle.nrm_dual.specs.Conditions.{is_above_capacity}
use Rattle.nrm_dual.proofs.LeastSearch.{rest}
use Rattle.nrm_dual.proofs.conditions.above_capacity.Given as goal

abbrev pub invariant-loop-leg : goal.invariant-loop-leg
invariant-loop-leg l = let test = is_above_capacity l.program (nat_abs l.certificate.q) (sizes l.certificate.x) in rest test (length l.program.caps) l.leg ≡ rest test (length l.program.caps) 0
