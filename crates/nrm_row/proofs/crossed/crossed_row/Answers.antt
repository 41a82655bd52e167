-- The numbers x e - a u divided by their common divisor are a row, or the first that is too large is told.
use Rattle.nrm_row.specs.declared.limits.TheConstants.{MOST_COLUMNS}
use Rattle.std.proofs.Common.{rules, ◌≡◌, ap, ap₂, sym, subst, subst₂, ◌∙◌, unsigned_abs, pos, ◌*ℤ◌, ◌<ℤ◌, to_z, of_z, to_z-of_z, w64, Some, leb}
use Rattle.std.proofs.lemmas.Result.{err_from_is_err_and}
use mir.Syntax.{w128}
use mir.Val.{SFits}
use Rattle.std.specs.Int.{IsInRange}
use Rattle.nrm_number.specs.Gcd.{shrink}
use Rattle.nrm_number.proofs.Integers.{positive_product}
use Rattle.nrm_fraction.specs.Large.{gcd_all, first_reaching, fractions, size_limit}
use Rattle.nrm_fraction.specs.Fault.{IsFault}
use Rattle.nrm_row.specs.Numbers.{IsRow}
use Rattle.nrm_row.specs.Inner.Crossed.{crossed, shrunk}
use Rattle.nrm_row.proofs.Combining.{common_read, wide_read, length-crossed}
use Rattle.nrm_row.proofs.LowestTerms.{made_is_row, lowest_same, large_den, large_of_numbers, loosened}
use Rattle.nrm_fraction.proofs.Sizes.{small_fits}
use Rattle.nrm_row.proofs.crossed.crossed_row.Goals as goal
use Rattle.nrm_row.proofs.crossed.crossed_row.Goals.{After-wide_quotient-wide}

positive : (c : After-wide_quotient-wide) → pos 0 <ℤ (c.args.den *ℤ c.args.e)
positive c = positive_product c.args.den c.args.e c.requires.row.positive c.requires.positive

common : (c : After-wide_quotient-wide) → to_z w128 (of_z w128 c.crossed_divisor-common.result) ≡ pos (gcd_all (unsigned_abs (c.args.den *ℤ c.args.e)) (crossed c.args.a c.args.e c.args.us.now c.args.xs.now))
common c =
    let fits : SFits w128 c.crossed_divisor-common.result = search rules in
    common_read c.args.den c.args.e c.args.a c.crossed_divisor-common.result c.args.us.now c.args.xs.now c.ranges.den c.ranges.e c.ranges.a fits c.crossed_divisor-common.ensures.value

wide : (c : After-wide_quotient-wide) → to_z w128 (of_z w128 c.wide_quotient-wide.result) ≡ shrink (c.args.den *ℤ c.args.e) (gcd_all (unsigned_abs (c.args.den *ℤ c.args.e)) (crossed c.args.a c.args.e c.args.us.now c.args.xs.now))
wide c =
    let fp : SFits w128 c.product.result = search rules in
    let fw : SFits w128 c.wide_quotient-wide.result = search rules in
    wide_read c.args.den c.args.e c.crossed_divisor-common.result c.product.result c.wide_quotient-wide.result _ c.ranges.den c.ranges.e fp fw (common c) c.product.ensures.value c.wide_quotient-wide.ensures

numbers : (c : After-wide_quotient-wide) → shrunk (unsigned_abs (to_z w128 (of_z w128 c.crossed_divisor-common.result))) (crossed (to_z w64 (of_z w64 c.args.a)) (to_z w64 (of_z w64 c.args.e)) c.args.us.now c.args.xs.now) ≡ shrunk (gcd_all (unsigned_abs (c.args.den *ℤ c.args.e)) (crossed c.args.a c.args.e c.args.us.now c.args.xs.now)) (crossed c.args.a c.args.e c.args.us.now c.args.xs.now)
numbers c = (λ i. shrunk (unsigned_abs (common c i)) (crossed (to_z-of_z c.ranges.a i) (to_z-of_z c.ranges.e i) c.args.us.now c.args.xs.now))

pub returns-then-is_large-clause-exact : goal.returns-then-is_large-clause-exact
returns-then-is_large-clause-exact c =
    let p = (goal.at.returns-then-is_large-clause-exact c).After-wide_quotient-wide in
    large_den size_limit (c.args.den *ℤ c.args.e) (crossed c.args.a c.args.e c.args.us.now c.args.xs.now) (positive p) (ap (λ z. leb size_limit (unsigned_abs z)) (sym (wide p)) ∙ sym c.is_large.ensures ∙ c.if-is_large.true)
    ∙ ap Some (sym (wide p))

pub returns-clause-row : goal.returns-clause-row
returns-clause-row c =
    let p = (goal.at.returns-clause-row c).After-wide_quotient-wide in
    let small = ap (λ z. leb size_limit (unsigned_abs z)) (sym (wide p)) ∙ sym c.is_large.ensures ∙ c.if-is_large.false in
    let width = subst (IsInRange 1 MOST_COLUMNS) (sym (length-crossed c.args.a c.args.e c.args.us.now c.args.xs.now c.requires.lengths)) c.requires.row.width in
    subst₂ (λ d ns. IsRow d ns) (sym (ap (λ z. to_z w64 (of_z w64 z)) (wide p) ∙ small_fits _ small)) (sym (c.in_ok-made.ensures.0 ∙ numbers p))
    (loosened _ _ (made_is_row (c.args.den *ℤ c.args.e) (crossed c.args.a c.args.e c.args.us.now c.args.xs.now) (positive p) small (ap (first_reaching size_limit) (sym (numbers p)) ∙ c.in_ok-made.ensures.1) width))

pub returns-clause-exact : goal.returns-clause-exact
returns-clause-exact c =
    let p = (goal.at.returns-clause-exact c).After-wide_quotient-wide in
    let small = ap (λ z. leb size_limit (unsigned_abs z)) (sym (wide p)) ∙ sym c.is_large.ensures ∙ c.if-is_large.false in
    let den = ap (λ z. to_z w64 (of_z w64 z)) (wide p) ∙ small_fits (shrink (c.args.den *ℤ c.args.e) (gcd_all (unsigned_abs (c.args.den *ℤ c.args.e)) (crossed c.args.a c.args.e c.args.us.now c.args.xs.now))) small in (
      ap₂ (λ d ns. fractions (unsigned_abs d) ns) den (c.in_ok-made.ensures.0 ∙ numbers p) ∙ lowest_same (c.args.den *ℤ c.args.e) (crossed c.args.a c.args.e c.args.us.now c.args.xs.now) (positive p),
      large_of_numbers size_limit (c.args.den *ℤ c.args.e) (crossed c.args.a c.args.e c.args.us.now c.args.xs.now) (positive p) small ∙ ap (first_reaching size_limit) (sym (numbers p)) ∙ c.in_ok-made.ensures.1,
    )

pub returns-in_err-made-clause-exact : goal.returns-in_err-made-clause-exact
returns-in_err-made-clause-exact c =
    let p = (goal.at.returns-in_err-made-clause-exact c).After-wide_quotient-wide in
    let small = ap (λ z. leb size_limit (unsigned_abs z)) (sym (wide p)) ∙ sym c.is_large.ensures ∙ c.if-is_large.false in
    let q = err_from_is_err_and c.from_residual.result c.from_residual.ensures.1 in
    rw (q.1, q.2)
    (subst (λ found. IsFault c.in_err-made.field-0.0 found)
    (ap (first_reaching size_limit) (numbers p) ∙ sym (large_of_numbers size_limit (c.args.den *ℤ c.args.e) (crossed c.args.a c.args.e c.args.us.now c.args.xs.now) (positive p) small))
    c.in_err-made.ensures)
