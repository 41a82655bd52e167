use Rattle.std.proofs.Common.{◌≡◌, nat_abs, length}
use Rattle.nrm_lp.specs.Certified.{sizes}
use Rattle.nrm_dual.specs.Conditions.{is_priced_with_seats_left}
use Rattle.nrm_dual.proofs.LeastSearch.{rest}
use Rattle.nrm_dual.proofs.conditions.priced_with_seats_left.Given as goal

abbrev pub invariant-loop-leg : goal.invariant-loop-leg
invariant-loop-leg l = let test = is_priced_with_seats_left l.program (nat_abs l.certificate.q) (sizes l.certificate.x) (sizes l.certificate.p) in rest test (length l.program.caps) l.leg ≡ rest test (length l.program.caps) 0
