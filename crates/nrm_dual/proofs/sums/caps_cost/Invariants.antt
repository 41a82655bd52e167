use Rattle.std.proofs.Common.{◌≡◌, ◌+◌, ◌*◌, ◌^◌, ◌≤◌, drop}
use Rattle.nrm_lp.specs.Program.{dot}
use Rattle.nrm_lp.specs.Certified.{sizes}
use Rattle.nrm_dual.proofs.sums.caps_cost.Given as goal

abbrev pub invariant-loop-leg : goal.invariant-loop-leg
invariant-loop-leg l = record {
  counted : l.sum + dot (drop l.leg l.program.caps) (drop l.leg (sizes l.certificate.p)) ≡ dot l.program.caps (sizes l.certificate.p);
  limit : l.sum ≤ l.leg * 2 ^ 63;
}
