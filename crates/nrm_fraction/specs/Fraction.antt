-- Exact fractions. Each is kept in lowest terms, so two fractions have one value exactly where they are `≡`.
use Rattle.std.specs.Prelude.{ℕ, zero, suc, ◌*◌, ◌/◌, ℤ, pos, negsuc, ◌+ℤ◌, ◌*ℤ◌, neg_ℤ, nat_abs, Bool, T, int_lt, ◌<ℤ◌}
use Rattle.nrm_number.specs.Gcd.{gcd, in_lowest_terms, shrink}
use Rattle.nrm_number.proofs.GcdLaws.{reduced_in_lowest_terms}

-- num / den, in lowest terms
pub record Fraction : Type 0 where
  pub num : ℤ
  pub den : ℕ
  pub is_lowest : T (in_lowest_terms num den)

infix 50 ◌<ᶠ◌
infixl 60 ◌+ᶠ◌ ◌-ᶠ◌
infixl 70 ◌*ᶠ◌ ◌/ᶠ◌
infixl 80 ◌over◌
-- n / d, where n / 0 is 0
unfoldable pub ◌over◌ : ℤ → ℕ → Fraction
unfolding in_lowest_terms gcd
n over zero = record { num = pos 0; den = 1; is_lowest = tt }
n over suc d =
    record { num = shrink n (gcd (nat_abs n) (suc d)); den = suc d / gcd (nat_abs n) (suc d); is_lowest = reduced_in_lowest_terms n d }

-- the sum
unfoldable pub ◌+ᶠ◌ : Fraction → Fraction → Fraction
x +ᶠ y = (x.num *ℤ pos y.den +ℤ y.num *ℤ pos x.den) over (x.den * y.den)

-- the product
unfoldable pub ◌*ᶠ◌ : Fraction → Fraction → Fraction
x *ᶠ y = (x.num *ℤ y.num) over (x.den * y.den)

-- x with the other sign
unfoldable pub negative : Fraction → Fraction
negative x = neg_ℤ x.num over x.den

-- the difference
abbrev pub ◌-ᶠ◌ : Fraction → Fraction → Fraction
x -ᶠ y = x +ᶠ negative y

-- n / d, where d has a sign: it goes to the numerator
abbrev pub over_whole : ℕ → ℤ → Fraction
over_whole n (pos d) = pos n over d
over_whole n (negsuc d) = neg_ℤ (pos n) over suc d

-- 1 / x, where 1 / 0 is 0
unfoldable pub inverse : Fraction → Fraction
inverse x = over_whole x.den x.num

-- the quotient
abbrev pub ◌/ᶠ◌ : Fraction → Fraction → Fraction
x /ᶠ y = x *ᶠ inverse y

-- x is below y
pub record ◌<ᶠ◌ (x y : Fraction) : Type 0 where
  pub below : (x.num *ℤ pos y.den) <ℤ (y.num *ℤ pos x.den)

-- the test of `<ᶠ`
unfoldable pub less : Fraction → Fraction → Bool
less x y = int_lt (x.num *ℤ pos y.den) (y.num *ℤ pos x.den)

-- a whole number
unfoldable pub whole : ℤ → Fraction
whole n = n over 1
