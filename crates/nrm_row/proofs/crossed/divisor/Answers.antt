-- One more number, and where the divisor is 1 the rest change nothing.
use Rattle.std.proofs.Common.{◌≡◌, sym, get_or, arith, rules, unsigned_abs, ap, ap₂, ◌∙◌, pos, ◌-ℤ◌, ◌*ℤ◌, ◌-◌, to_z-of_z, to_z, of_z, w64}
use mir.Syntax.{w128}
use mir.Val.{SFits}
use Rattle.nrm_fraction.specs.Large.{gcd_all}
use Rattle.nrm_row.specs.Inner.Crossed.{crossed}
use Rattle.nrm_row.proofs.Bits.{wide_zero_from_bits}
use Rattle.nrm_row.proofs.Combining.{divisor_more, crossed_one}
use Rattle.nrm_fraction.proofs.CommonDivisors.{gcd_nought}
use Rattle.nrm_row.proofs.crossed.divisor.Goals as goal

pub loop-i-preserved-then-number-ne0 : goal.loop-i-preserved-then-number-ne0
loop-i-preserved-then-number-ne0 c =
    let fx : SFits w64 (get_or c.args.xs.now (c.loop-i.i - 1) (pos 0)) = search rules in
    let fu : SFits w64 (get_or c.args.us.now (c.loop-i.i - 1) (pos 0)) = search rules in
    let fc : SFits w128 c.cross-number.result = search rules in
    let number : c.cross-number.result ≡ get_or c.args.xs.now (c.loop-i.i - 1) (pos 0) *ℤ to_z w64 (of_z w64 c.args.e) -ℤ to_z w64 (of_z w64 c.args.a) *ℤ get_or c.args.us.now (c.loop-i.i - 1) (pos 0) =
    c.cross-number.ensures.value ∙ ap₂ (λ x u. x *ℤ to_z w64 (of_z w64 c.args.e) -ℤ to_z w64 (of_z w64 c.args.a) *ℤ u) (to_z-of_z fx) (to_z-of_z fu) in (
      omega arith,
      c.gcd-common.ensures.value
          ∙ divisor_more c.args.d c.loop-i.common c.unsigned_abs.result (to_z w64 (of_z w64 c.args.a)) (to_z w64 (of_z w64 c.args.e)) c.args.us.now c.args.xs.now c.loop-i.i
          (omega arith) (omega arith) c.requires.lengths c.loop-i.invariant.1
          (c.unsigned_abs.ensures.value ∙ ap unsigned_abs (to_z-of_z fc ∙ number)),
    )

pub loop-i-preserved : goal.loop-i-preserved
loop-i-preserved c =
    let fx : SFits w64 (get_or c.args.xs.now (c.loop-i.i - 1) (pos 0)) = search rules in
    let fu : SFits w64 (get_or c.args.us.now (c.loop-i.i - 1) (pos 0)) = search rules in
    let fc : SFits w128 c.cross-number.result = search rules in
    let number : c.cross-number.result ≡ get_or c.args.xs.now (c.loop-i.i - 1) (pos 0) *ℤ to_z w64 (of_z w64 c.args.e) -ℤ to_z w64 (of_z w64 c.args.a) *ℤ get_or c.args.us.now (c.loop-i.i - 1) (pos 0) =
    c.cross-number.ensures.value ∙ ap₂ (λ x u. x *ℤ to_z w64 (of_z w64 c.args.e) -ℤ to_z w64 (of_z w64 c.args.a) *ℤ u) (to_z-of_z fx) (to_z-of_z fu) in (
      omega arith,
      sym (gcd_nought c.loop-i.common)
          ∙ divisor_more c.args.d c.loop-i.common 0 (to_z w64 (of_z w64 c.args.a)) (to_z w64 (of_z w64 c.args.e)) c.args.us.now c.args.xs.now c.loop-i.i
          (omega arith) (omega arith) c.requires.lengths c.loop-i.invariant.1
          (ap unsigned_abs (sym (wide_zero_from_bits c.cross-number.result fc c.if-number-ne0.false) ∙ number)),
    )

pub returns-else-common-ne1 : goal.returns-else-common-ne1
returns-else-common-ne1 c =
    crossed_one c.args.d c.loop-i.common (to_z w64 (of_z w64 c.args.a)) (to_z w64 (of_z w64 c.args.e)) c.args.us.now c.args.xs.now c.loop-i.i c.requires.lengths c.loop-i.invariant.1 c.if-common-ne1.false
    ∙ (λ i. gcd_all c.args.d (crossed (to_z-of_z c.ranges.a i) (to_z-of_z c.ranges.e i) c.args.us.now c.args.xs.now))
