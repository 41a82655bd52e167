use Rattle.std.proofs.Common.{ap, sym, length, arith}
use Rattle.std.proofs.lemmas.Fmt.{decimal_digit}
use Rattle.nrm_text.proofs.Decimals.{digits-of_power}
use Rattle.nrm_text.proofs.line.digit_count.Goals as goal

pub returns-in-Some : goal.returns-in-Some
returns-in-Some c = sym (digits-of_power c.args.number c.in-Some.power c.ranges.number.fits c.in-Some.ensures.power_le c.in-Some.ensures.next_power_gt)

pub returns-in-None : goal.returns-in-None
returns-in-None c = sym (ap length (decimal_digit c.args.number (omega (arith, c.in-None.ensures.none))))
