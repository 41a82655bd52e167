-- The value of hindsight bounds each allocation of its program.
use Rattle.std.proofs.Common.{ℕ, suc, ◌≡◌, ◌∙◌, ◌*◌, ◌<◌, ◌≤◌, ℤ, pos, negsuc, ◌*ℤ◌, ◌≤ℤ◌, nat_abs, sym, ap, subst, arith}
use native.Mathlib.Nat.{le_of_mul-le-mul_right, mul-le-mul_right, mul-pos}
use borrow.Author.Differences.{at_most_in, down, product_is}
use Rattle.nrm_fraction.specs.Fraction.{Fraction, ◌over◌}
use Rattle.nrm_fraction.proofs.Values.{IsValue, IsValue_over}
use Rattle.nrm_lp.specs.declared.certificate.Certificate.{Certificate}
use Rattle.nrm_lp.specs.Certified.{sizes}
use Rattle.nrm_lp.specs.Limits.{IsLimited}
use Rattle.nrm_lp.specs.Program.{ProgramValue, gain}
use Rattle.nrm_lp.proofs.Duality.{weak_duality}
use Rattle.nrm_simplex.specs.Solving.{IsClosing}
use Rattle.nrm_simplex.proofs.Walk.{closing_certifies}
use Rattle.nrm_dlp.specs.Hindsight.{BoundsAllocations}
use Rattle.nrm_dlp.specs.Laws.{HindsightsBoundAllocations}
use Rattle.nrm_dlp.specs.Programs.{hindsight_program}
use Rattle.nrm_dlp.proofs.Hindsights.{hindsight-limited}

-- from the value over its denominator to the fraction
-- the certificate of a closing has no sign
pub closing-value : (a : ProgramValue) (made : Certificate) → IsClosing a made → made.value ≡ pos (nat_abs made.value)
closing-value a made (n, t, closes, is) = ap (λ (c : Certificate). c.value) is ∙ sym (ap (λ (c : Certificate). pos (nat_abs c.value)) is)

-- a gain over q of at most v over d is at most a fraction of that value
bounded : (num : ℤ) (den v d g q : ℕ) → 0 < d → num *ℤ pos d ≡ pos v *ℤ pos den → g * d ≤ v * q → pos (g * den) ≤ℤ (num *ℤ pos q)
bounded (pos n) den v d g q some worth less =
    let same : n * d ≡ v * den = ap nat_abs worth in
    let scaled : (g * den) * d ≤ (n * q) * d = omega (arith, mul-le-mul_right den less, ap (λ (t : ℕ). t * q) same) in
    let within : g * den ≤ n * q = le_of_mul-le-mul_right scaled some in
    at_most_in (pos (g * den)) (pos n *ℤ pos q) (omega (arith, product_is (pos n) (pos q)))
bounded (negsuc n) den v d g q some worth less =
    let size : 0 < suc n * d = mul-pos (omega arith) some in
    absurd (omega (arith, product_is (negsuc n) (pos d), product_is (pos v) (pos den), ap down worth))

-- what the closing of a program is worth bounds each of its allocations
pub closing-bounds : (a : ProgramValue) (made : Certificate) (value : Fraction) → IsLimited a → IsClosing a made → value ≡ made.value over nat_abs made.den → BoundsAllocations a value
closing-bounds a made value limits closes is q x allocates =
    let shows = closing_certifies a limits made closes in
    let d = nat_abs made.den in
    let v = nat_abs made.value in
    let below : gain a x * d ≤ v * q = subst (λ (n : ℕ). gain a x * d ≤ n * q) (sym shows.meet.value_is) (weak_duality a q d x (sizes made.p) limits.products allocates shows.meet.prices) in
    let signed : value ≡ pos v over d = is ∙ ap (λ (n : ℤ). n over d) (closing-value a made closes) in
    let worth = subst (λ (y : Fraction). IsValue y (pos v) d) (sym signed) (IsValue_over (pos v) d shows.meet.prices.whole) in
    bounded value.num value.den v d (gain a x) q worth.divides worth.worth below

-- and so does the value of hindsight those of its program
pub hindsight-bounds : HindsightsBoundAllocations
hindsight-bounds net tallies value is are found = closing-bounds (hindsight_program net tallies) found.certificate value (hindsight-limited net tallies is are) found.closing found.value_is
