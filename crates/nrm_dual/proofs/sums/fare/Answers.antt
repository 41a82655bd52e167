use Rattle.std.proofs.Common.{ap, arith, length}
use Rattle.nrm_lp.proofs.Optimal.{lengths_are}
use Rattle.nrm_dual.proofs.sums.fare.Goals as goal

pub bounds-fares-from : goal.bounds-fares-from
bounds-fares-from c =
    let a = c.args.program.now in
    let counts = lengths_are (length a.caps) a.bounds a.fares a.legs c.fares.ensures.limits.products in
    omega (arith, counts.0, ap length c.fares.ensures.fares)
