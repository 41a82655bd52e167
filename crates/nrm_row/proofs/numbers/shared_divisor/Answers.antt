-- The divisor of a denominator fits.
use Rattle.std.proofs.Common.{◌≡◌, ◌<◌, arith, unsigned_abs, ap, ap₂, ◌∙◌, pos, to_z-of_z, to_z, w64}
use Rattle.std.proofs.lemmas.Int.{ints}
use Rattle.nrm_number.specs.Gcd.{gcd as gcd_of}
use Rattle.nrm_number.proofs.GcdLaws.{gcd_pos}
use Rattle.nrm_row.proofs.Combining.{shared_le}
use Rattle.nrm_fraction.proofs.Sizes.{positive_abs}
use Rattle.nrm_fraction.specs.Large.{size_limit}
use Rattle.nrm_row.proofs.numbers.shared_divisor.Goals as goal

value : (c : goal.After-short_gcd) → c.short_gcd.result ≡ gcd_of (unsigned_abs c.args.n) (unsigned_abs c.args.den)
value c = c.short_gcd.ensures.value ∙ ap₂ gcd_of (c.unsigned_abs.ensures.value ∙ ap unsigned_abs (to_z-of_z c.ranges.n)) (c.unsigned_abs-2.ensures.value ∙ ap unsigned_abs (to_z-of_z c.ranges.den))

small : (c : goal.After-short_gcd) → c.short_gcd.result < size_limit
small c = omega (arith, value c, shared_le c.args.n c.args.den c.requires.positive, c.requires.small)

pub overflow_cast-result : goal.overflow_cast-result
overflow_cast-result c = let l : c.short_gcd.result < size_limit = small c in omega (arith, ints)

same : (c : goal.After-short_gcd) → to_z w64 c.short_gcd.result ≡ pos c.short_gcd.result
same c = let l : c.short_gcd.result < size_limit = small c in omega (arith, ints)

pub returns-clause-value : goal.returns-clause-value
returns-clause-value c = same c ∙ ap pos (value c)

pub returns-clause-positive : goal.returns-clause-positive
returns-clause-positive c = omega (arith, ints, same c, value c, gcd_pos (unsigned_abs c.args.n) (unsigned_abs c.args.den) (positive_abs c.args.den c.requires.positive).1)
