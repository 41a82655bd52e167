-- At 64 bits the quotient is the same.
use Rattle.std.proofs.Common.{◌∙◌}
use Rattle.std.proofs.lemmas.Int.{quot_fits, quot_is}
use mir.Syntax.{w128}
use Rattle.nrm_row.proofs.Divisors.{quotient_is}
use Rattle.nrm_row.proofs.numbers.wide_quotient.Goals as goal

pub returns-in_default : goal.returns-in_default
returns-in_default c = quot_is w128 c.args.t c.args.g c.ranges.t c.ranges.g (quot_fits w128 c.args.t c.args.g c.ranges.t c.requires) ∙ quotient_is c.args.t c.args.g c.requires
