-- One more number, and where the divisor is 1 the rest change nothing.
use Rattle.std.proofs.Common.{rules, ◌-◌, get_or, ◌≡◌, ◌<◌, arith, ap, ◌∙◌, pos, unsigned_abs, inl, inr, to_z-of_z, to_z, of_z, w64}
use Rattle.std.proofs.lemmas.Int.{ints}
use Rattle.nrm_fraction.specs.Large.{gcd_all, size_limit}
use mir.Val.{SFits}
use Rattle.nrm_row.proofs.Bits.{zero_from_bits}
use Rattle.nrm_row.proofs.Divisors.{divisor_done, nought_more}
use Rattle.nrm_row.proofs.lowest.divisor.Goals as goal
use Rattle.nrm_row.proofs.lowest.divisor.Goals.{then-loop-i-test+else-common-ne1, else-loop-i-test}
use Rattle.nrm_fraction.proofs.CommonDivisors.{gcd_all_le, gcd_all_pos}
use Rattle.nrm_fraction.proofs.Sizes.{positive_abs}

done : (c : goal.Left-loop-i) → c.loop-i.common ≡ gcd_all (unsigned_abs c.args.den) c.args.nums.now
done c =
    elim c.loop-i-test.branch [
      | then-loop-i-test+else-common-ne1 w ↦ divisor_done (unsigned_abs (to_z w64 (of_z w64 c.args.den))) c.loop-i.common c.args.nums.now c.loop-i.i c.loop-i.invariant.1 (inr w.if-common-ne1.false) ∙ ap (λ d. gcd_all (unsigned_abs d) c.args.nums.now) (to_z-of_z c.ranges.den)
      | else-loop-i-test w ↦ divisor_done (unsigned_abs (to_z w64 (of_z w64 c.args.den))) c.loop-i.common c.args.nums.now c.loop-i.i c.loop-i.invariant.1 (inl (omega (arith, w.loop-i-test.false))) ∙ ap (λ d. gcd_all (unsigned_abs d) c.args.nums.now) (to_z-of_z c.ranges.den)
    ]

small : (c : goal.Left-loop-i) → c.loop-i.common < size_limit
small c = omega (arith, done c, gcd_all_le (unsigned_abs c.args.den) c.args.nums.now (positive_abs c.args.den c.requires.positive).1, c.requires.small)

pub overflow_cast-result : goal.overflow_cast-result
overflow_cast-result c = let l : c.loop-i.common < size_limit = small c in omega (arith, ints)

same : (c : goal.Left-loop-i) → to_z w64 c.loop-i.common ≡ pos c.loop-i.common
same c = let l : c.loop-i.common < size_limit = small c in omega (arith, ints)

pub returns-clause-value : goal.returns-clause-value
returns-clause-value c = same c ∙ ap pos (done c)

pub returns-clause-positive : goal.returns-clause-positive
returns-clause-positive c = omega (arith, ints, same c, done c, gcd_all_pos (unsigned_abs c.args.den) c.args.nums.now (positive_abs c.args.den c.requires.positive).1)

pub loop-i-preserved : goal.loop-i-preserved
loop-i-preserved c =
    let f : SFits w64 (get_or c.args.nums.now (c.loop-i.i - 1) (pos 0)) = search rules in (
      omega arith,
      nought_more (unsigned_abs (to_z w64 (of_z w64 c.args.den))) c.loop-i.common c.args.nums.now c.loop-i.i c.loop-i-test.true c.loop-i.invariant.0 c.loop-i.invariant.1 (zero_from_bits (get_or c.args.nums.now (c.loop-i.i - 1) (pos 0)) f c.if-nums-i-ne0.false),
    )
