-- An allocation of the program of hindsight gains its value.
use Rattle.std.proofs.Common.{ℕ, suc, ◌≡◌, ◌∙◌, ◌*◌, ◌<◌, ◌≤◌, ℤ, pos, negsuc, ◌*ℤ◌, nat_abs, sym, ap, subst, arith}
use native.Mathlib.Nat.{le_of_mul-le-mul_right, mul-pos}
use borrow.Author.Differences.{down, product_is}
use Rattle.nrm_fraction.specs.Fraction.{Fraction, ◌over◌}
use Rattle.nrm_fraction.proofs.Values.{IsValue, IsValue_over}
use Rattle.nrm_lp.specs.declared.certificate.Certificate.{Certificate}
use Rattle.nrm_lp.specs.Certified.{sizes}
use Rattle.nrm_lp.specs.Limits.{IsLimited}
use Rattle.nrm_lp.specs.Program.{ProgramValue, gain}
use Rattle.nrm_simplex.specs.Solving.{IsClosing}
use Rattle.nrm_simplex.proofs.Walk.{closing_certifies}
use Rattle.nrm_dlp.specs.Hindsight.{IsAttained}
use Rattle.nrm_dlp.specs.Laws.{HindsightsAreAttained}
use Rattle.nrm_dlp.specs.Programs.{hindsight_program}
use Rattle.nrm_dlp.proofs.Bounds.{closing-value}
use Rattle.nrm_dlp.proofs.Hindsights.{hindsight-limited}

-- a gain over q of v over d is a fraction of that value
gained : (num : ℤ) (den v d g q : ℕ) → 0 < d → num *ℤ pos d ≡ pos v *ℤ pos den → v * q ≡ g * d → pos (g * den) ≡ num *ℤ pos q
gained (pos n) den v d g q some worth gains =
    let same : n * d ≡ v * den = ap nat_abs worth in
    let scaled : (g * den) * d ≡ (n * q) * d = omega (arith, ap (λ (t : ℕ). t * den) gains, ap (λ (t : ℕ). t * q) same) in
    let below : g * den ≤ n * q = le_of_mul-le-mul_right (omega (arith, scaled)) some in
    let above : n * q ≤ g * den = le_of_mul-le-mul_right (omega (arith, scaled)) some in
    ap pos (omega (arith, below, above))
gained (negsuc n) den v d g q some worth gains =
    let size : 0 < suc n * d = mul-pos (omega arith) some in
    absurd (omega (arith, product_is (negsuc n) (pos d), product_is (pos v) (pos den), ap down worth))

pub closing-attained : (a : ProgramValue) (made : Certificate) (value : Fraction) → IsLimited a → IsClosing a made → value ≡ made.value over nat_abs made.den → IsAttained a value
closing-attained a made value limits closes is =
    let shows = closing_certifies a limits made closes in
    let d = nat_abs made.den in
    let v = nat_abs made.value in
    let signed : value ≡ pos v over d = is ∙ ap (λ (n : ℤ). n over d) (closing-value a made closes) in
    let worth = subst (λ (y : Fraction). IsValue y (pos v) d) (sym signed) (IsValue_over (pos v) d shows.meet.prices.whole) in
    record {
      q = nat_abs made.q;
      x = sizes made.x;
      allocation = shows.meet.allocation;
      gains = gained value.num value.den v d (gain a (sizes made.x)) (nat_abs made.q) worth.divides worth.worth shows.meet.worth;
    }

pub attained : HindsightsAreAttained
attained net tallies value is are found = closing-attained (hindsight_program net tallies) found.certificate value (hindsight-limited net tallies is are) found.closing found.value_is
