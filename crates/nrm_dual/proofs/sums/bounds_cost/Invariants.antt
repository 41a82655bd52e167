use Rattle.std.proofs.Common.{◌≡◌, ◌+◌, ◌*◌, ◌^◌, ◌≤◌, drop, nat_abs}
use Rattle.nrm_lp.specs.Program.{surplus}
use Rattle.nrm_lp.specs.Certified.{sizes}
use Rattle.nrm_dual.proofs.sums.bounds_cost.Given as goal

abbrev pub invariant-loop-product : goal.invariant-loop-product
invariant-loop-product l = record {
  counted : l.sum + surplus (nat_abs l.certificate.den) (sizes l.certificate.p) (drop l.product l.program.bounds) (drop l.product l.program.fares) (drop l.product l.program.legs) ≡ surplus (nat_abs l.certificate.den) (sizes l.certificate.p) l.program.bounds l.program.fares l.program.legs;
  limit : l.sum ≤ l.product * 2 ^ 90;
}
