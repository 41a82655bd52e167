use Rattle.std.proofs.Common.{◌≡◌, ◌+◌, ◌*◌, ◌^◌, ◌≤◌, drop}
use Rattle.nrm_lp.specs.Program.{load}
use Rattle.nrm_lp.specs.Certified.{sizes}
use Rattle.nrm_dual.proofs.sums.load.Given as goal

abbrev pub invariant-loop-product : goal.invariant-loop-product
invariant-loop-product l = record {
  counted : l.seats + load l.leg (drop l.product l.program.legs) (drop l.product (sizes l.certificate.x)) ≡ load l.leg l.program.legs (sizes l.certificate.x);
  limit : l.seats ≤ l.product * 2 ^ 48;
}
