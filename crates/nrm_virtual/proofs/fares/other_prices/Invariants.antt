use Rattle.std.proofs.Common.{◌≡◌, ◌≤◌, ◌*◌, ◌^◌, ◌==◌, filter, not, take}
use Rattle.nrm_lp.specs.Certified.{sizes}
use Rattle.nrm_lp.specs.Program.{price_sum}
use Rattle.nrm_virtual.proofs.fares.other_prices.Given as goal

abbrev pub invariant-loop-other : goal.invariant-loop-other
invariant-loop-other l = record {
  sum : l.sum ≡ price_sum (sizes l.cert.p) (filter (λ other. not (other == l.leg)) (take l.other-index l.legs));
  within : l.sum ≤ 2 ^ 48 * l.other-index;
}
