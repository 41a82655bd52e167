-- The divisor of the wide denominator and the numbers fits.
use Rattle.std.proofs.Common.{rules, ◌≡◌, ◌<◌, ◌^◌, arith, unsigned_abs, ap, ap₂, ◌∙◌, pos, ◌*ℤ◌, to_z-of_z}
use mir.Syntax.{w128}
use mir.Val.{SFits}
use Rattle.std.proofs.lemmas.Int.{ints}
use Rattle.nrm_fraction.specs.Large.{gcd_all}
use Rattle.nrm_fraction.proofs.CommonDivisors.{gcd_all_pos}
use Rattle.nrm_row.specs.Inner.Crossed.{crossed}
use Rattle.nrm_row.proofs.Combining.{product_positive, gcd_all_small}
use Rattle.nrm_row.proofs.Bits.{cast_small}
use Rattle.nrm_row.proofs.crossed.crossed_divisor.Goals as goal

wide : (c : goal.After-divisor) → c.unsigned_abs.result ≡ unsigned_abs (c.args.den *ℤ c.args.e)
wide c =
    let fits : SFits w128 c.product.result = search rules in
    c.unsigned_abs.ensures.value ∙ ap unsigned_abs (to_z-of_z fits ∙ c.product.ensures.value ∙ ap₂ (λ s t. s *ℤ t) (to_z-of_z c.ranges.den) (to_z-of_z c.ranges.e))

same : (c : goal.After-divisor) → c.divisor.result ≡ gcd_all (unsigned_abs (c.args.den *ℤ c.args.e)) (crossed c.args.a c.args.e c.args.us.now c.args.xs.now)
same c = c.divisor.ensures ∙ (λ i. gcd_all (wide c i) (crossed (to_z-of_z c.ranges.a i) (to_z-of_z c.ranges.e i) c.args.us.now c.args.xs.now))

small : (c : goal.After-divisor) → c.divisor.result < 2 ^ 96
small c =
    let fits : SFits w128 c.product.result = search rules in
    let size = gcd_all_small (unsigned_abs (c.args.den *ℤ c.args.e)) (crossed c.args.a c.args.e c.args.us.now c.args.xs.now) (product_positive c.args.den c.args.e c.requires.den_positive c.requires.e_positive)
    (omega (arith, wide c, c.unsigned_abs.ensures.value, ap unsigned_abs (to_z-of_z fits), c.product.ensures.bound)) in
    omega (arith, same c, size)

pub overflow_cast-result : goal.overflow_cast-result
overflow_cast-result c = let l : c.divisor.result < 2 ^ 96 = small c in omega (arith, ints)

pub returns-clause-value : goal.returns-clause-value
returns-clause-value c = cast_small c.divisor.result (small c) ∙ ap pos (same c)

pub returns-clause-positive : goal.returns-clause-positive
returns-clause-positive c = omega (arith, ints, cast_small c.divisor.result (small c), same c, gcd_all_pos (unsigned_abs (c.args.den *ℤ c.args.e)) (crossed c.args.a c.args.e c.args.us.now c.args.xs.now) (product_positive c.args.den c.args.e c.requires.den_positive c.requires.e_positive))
