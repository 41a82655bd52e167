use Rattle.std.proofs.Common.{◌≡◌, nat_abs, length}
use Rattle.nrm_lp.specs.Certified.{sizes}
use Rattle.nrm_dual.specs.Conditions.{is_above_demand}
use Rattle.nrm_dual.proofs.LeastSearch.{rest}
use Rattle.nrm_dual.proofs.conditions.above_demand.Given as goal

abbrev pub invariant-loop-product : goal.invariant-loop-product
invariant-loop-product l = let test = is_above_demand l.program (nat_abs l.certificate.q) (sizes l.certificate.x) in rest test (length l.program.bounds) l.product ≡ rest test (length l.program.bounds) 0
