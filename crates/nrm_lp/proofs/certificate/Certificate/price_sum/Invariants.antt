use Rattle.std.proofs.Common.{◌≡◌, ◌+◌, ◌*◌, ◌^◌, ◌≤◌, drop}
use Rattle.nrm_lp.specs.Program.{price_sum}
use Rattle.nrm_lp.specs.Certified.{sizes}
use Rattle.nrm_lp.proofs.certificate.Certificate.price_sum.Given as goal

-- the prices so far and those of the legs to come are the sum
abbrev pub invariant-loop-leg : goal.invariant-loop-leg
invariant-loop-leg l = record {
  counted : l.sum + price_sum (sizes l.self.p) (drop l.leg-index l.legs) ≡ price_sum (sizes l.self.p) l.legs;
  limit : l.sum ≤ l.leg-index * 2 ^ 48;
}
