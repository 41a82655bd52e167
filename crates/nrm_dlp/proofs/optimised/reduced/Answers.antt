use Rattle.nrm_fraction.proofs.Reduced.{reduced_same}
use Rattle.nrm_number.proofs.GcdLaws.{gcd_pos, reduced_lowest, reduced_pos}
use Rattle.nrm_dlp.proofs.optimised.reduced.Goals as goal

pub nonzero_div-result : goal.nonzero_div-result
nonzero_div-result c = rw c.short_gcd-shared.ensures.value (gcd_pos c.args.num c.args.den c.requires)

pub nonzero_div-result-2 : goal.nonzero_div-result-2
nonzero_div-result-2 c = rw c.short_gcd-shared.ensures.value (gcd_pos c.args.num c.args.den c.requires)

pub returns-clause-value : goal.returns-clause-value
returns-clause-value c = rw c.short_gcd-shared.ensures.value (reduced_same c.args.num c.args.den c.requires)

pub returns-clause-some : goal.returns-clause-some
returns-clause-some c = rw c.short_gcd-shared.ensures.value (reduced_pos c.args.num c.args.den c.requires)

pub returns-clause-lowest : goal.returns-clause-lowest
returns-clause-lowest c = rw c.short_gcd-shared.ensures.value (reduced_lowest c.args.num c.args.den c.requires)
