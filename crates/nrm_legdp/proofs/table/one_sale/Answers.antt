use Rattle.std.proofs.Common.{◌≤◌, ◌-◌, arith}
use native.Mathlib.Nat.{mul-le-mul}
use Rattle.nrm_legdp.proofs.table.one_sale.Goals as goal

pub returns-clause-small : goal.returns-clause-small
returns-clause-small c =
    let pay : c.args.pay ≤ 1208925819614629174706176 = omega (arith, c.requires.pay) in
    let sold : c.min-sold.result ≤ 65536 = omega (arith, c.min-sold.ensures, c.from.ensures, c.ranges.demand) in
    omega (arith, mul-le-mul pay sold, c.requires.worth (c.args.x - c.min-sold.result) 0 (omega (arith, c.requires.within)))
