-- A fraction of whole numbers in lowest terms, and brought to them.
use Rattle.std.proofs.Common.{◌≡◌, ℕ, suc, zero, ◌/◌, ◌<◌, pos, arith, sym, ap, ◌∙◌}
use native.Mathlib.Nat.{div-mul_cancel, div-one}
use Rattle.nrm_number.specs.Gcd.{gcd}
use Rattle.nrm_number.proofs.GcdLaws.{gcd_is, reduced_pos}
use Rattle.nrm_fraction.specs.Fraction.{Fraction, ◌over◌}
use Rattle.nrm_fraction.proofs.Values.{IsValue_over, same_value, shrink_worth}

-- in lowest terms already: the parts are the numbers
pub over_parts : (n d : ℕ) → 0 < d → gcd n d ≡ 1 → ((pos n over d).num ≡ pos n) × ((pos n over d).den ≡ d)
unfolding ◌over◌
over_parts n zero h g = absurd (omega arith)
over_parts n (suc d) h g = (ap (λ t. pos (n / t)) g ∙ ap pos (div-one n), ap (λ t. suc d / t) g ∙ div-one (suc d))

pub num_is : (n d : ℕ) (x : Fraction) → 0 < d → gcd n d ≡ 1 → pos n over d ≡ x → pos n ≡ x.num
num_is n d x h g e = sym (over_parts n d h g).0 ∙ ap (λ y. y.num) e

pub den_is : (n d : ℕ) (x : Fraction) → 0 < d → gcd n d ≡ 1 → pos n over d ≡ x → d ≡ x.den
den_is n d x h g e = sym (over_parts n d h g).1 ∙ ap (λ y. y.den) e

-- divided by what they have in common
pub reduced_same : (n d : ℕ) → 0 < d → pos (n / gcd n d) over (d / gcd n d) ≡ pos n over d
reduced_same n d h =
    same_value (pos (n / gcd n d) over (d / gcd n d)) (pos n over d) (pos (n / gcd n d)) (pos n) (d / gcd n d) d
    (IsValue_over (pos (n / gcd n d)) (d / gcd n d) (reduced_pos n d h)) (IsValue_over (pos n) d h)
    (shrink_worth (pos n) (gcd n d) d (div-mul_cancel (gcd n d) (gcd_is n d).0) (div-mul_cancel (gcd n d) (gcd_is n d).1))
