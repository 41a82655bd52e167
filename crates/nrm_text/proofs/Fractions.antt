-- The fraction that two numbers give: its sign, its parts and how long its text is.
use Rattle.std.proofs.Common.{ℕ, zero, suc, ◌≡◌, ◌∙◌, ◌+◌, ◌*◌, ◌/◌, ◌^◌, ◌<◌, ◌≤◌, List, ◌∷◌, [], ◌++◌, length, refl, sym, ap, ap₂, subst}
use Rattle.std.proofs.Common.{arith, length-append}
use Rattle.std.specs.Prelude.{decimal, ℤ, pos, negsuc, neg_ℤ, nat_abs, unsigned_abs}
use Rattle.std.proofs.Math.Nat.{div-le_self}
use Rattle.std.proofs.lemmas.Fmt.{length-decimal-le_wide}
use Rattle.std.proofs.lemmas.Int.{unsigned_abs-mul}
use native.Mathlib.Nat.{div-mul_cancel}
use Rattle.nrm_number.specs.Gcd.{gcd, shrink}
use Rattle.nrm_number.proofs.GcdLaws.{gcd_is, nat_abs-shrink}
use Rattle.nrm_fraction.specs.Fraction.{Fraction, ◌over◌}
use Rattle.nrm_fraction.proofs.Values.{IsValue_over}
use Rattle.nrm_text.specs.Fractions.{sign_of, signed_text, fraction_text}

-- ---- the numbers of n over d
pub over_num : (n : ℤ) (d : ℕ) → 0 < d → (n over d).num ≡ shrink n (gcd (nat_abs n) d)
unfolding ◌over◌
over_num n zero some = absurd (omega arith)
over_num n (suc d) some = refl

pub over_den : (n : ℤ) (d : ℕ) → 0 < d → (n over d).den ≡ d / gcd (nat_abs n) d
unfolding ◌over◌
over_den n zero some = absurd (omega arith)
over_den n (suc d) some = refl

pub over_size : (n : ℤ) (d : ℕ) → 0 < d → nat_abs (n over d).num ≡ nat_abs n / gcd (nat_abs n) d
over_size n d some = ap nat_abs (over_num n d some) ∙ nat_abs-shrink n (gcd (nat_abs n) d)

-- what is left of a number that isn't 0 isn't 0
sign_negative : (q g n : ℕ) → q * g ≡ suc n → sign_of (neg_ℤ (pos q)) ≡ 45 ∷ []
sign_negative zero g n e = absurd (omega (arith, e))
sign_negative (suc q) g n e = refl

sign-shrink : (n : ℤ) (d : ℕ) → sign_of (shrink n (gcd (nat_abs n) d)) ≡ sign_of n
sign-shrink (pos n) d = refl
sign-shrink (negsuc n) d = sign_negative (suc n / gcd (suc n) d) (gcd (suc n) d) n (div-mul_cancel (gcd (suc n) d) (gcd_is (suc n) d).0)

pub over_sign : (n : ℤ) (d : ℕ) → 0 < d → sign_of (n over d).num ≡ sign_of n
over_sign n d some = ap sign_of (over_num n d some) ∙ sign-shrink n d

-- it is n / d
pub over_same : (n : ℤ) (d : ℕ) → 0 < d → nat_abs (n over d).num * d ≡ nat_abs n * (n over d).den
over_same n d some = sym (unsigned_abs-mul (n over d).num (pos d)) ∙ ap nat_abs (IsValue_over n d some).worth ∙ unsigned_abs-mul n (pos (n over d).den)

pub over_small : (n : ℤ) (d : ℕ) → 0 < d → (nat_abs (n over d).num ≤ nat_abs n) × ((n over d).den ≤ d)
over_small n d some =
    let top = div-le_self (nat_abs n) (gcd (nat_abs n) d) in
    let bottom = div-le_self d (gcd (nat_abs n) d) in
    (omega (arith, over_size n d some, top), omega (arith, over_den n d some, bottom))

-- ---- its text
pub over_text : (n : ℤ) (d : ℕ) → 0 < d
    → fraction_text (n over d) ≡ sign_of n ++ decimal (nat_abs n / gcd (nat_abs n) d) ++ 47 ∷ [] ++ decimal (d / gcd (nat_abs n) d)
over_text n d some =
    ap (λ s. s ++ decimal (nat_abs (n over d).num) ++ 47 ∷ [] ++ decimal (n over d).den) (over_sign n d some)
    ∙ ap₂ (λ p q. sign_of n ++ decimal p ++ 47 ∷ [] ++ decimal q) (over_size n d some) (over_den n d some)

-- its text by the numbers that are left over their divisor, where m is n as it was handed on
pub over_pieces : (n m : ℤ) (d size shared : ℕ) → m ≡ n → 0 < d → size ≡ nat_abs m → shared ≡ gcd size d
    → fraction_text (n over d) ≡ sign_of m ++ decimal (size / shared) ++ 47 ∷ [] ++ decimal (d / shared)
over_pieces n m d size shared same some size_is shared_is =
    let shared_same : shared ≡ gcd (nat_abs m) d = subst (λ s. shared ≡ gcd s d) size_is shared_is in
    ap (λ (k : ℤ). fraction_text (k over d)) (sym same)
    ∙ over_text m d some
    ∙ sym (ap₂ (λ s g. sign_of m ++ decimal (s / g) ++ 47 ∷ [] ++ decimal (d / g)) size_is shared_same)

pieces-length : (sign top bottom : List ℕ) → length (sign ++ top ++ 47 ∷ [] ++ bottom) ≡ length sign + length top + 1 + length bottom
pieces-length sign top bottom = omega (arith, length-append ((sign ++ top) ++ 47 ∷ []) bottom, length-append (sign ++ top) (47 ∷ []), length-append sign top)

pub over_length : (n m : ℤ) (d size shared : ℕ) → m ≡ n → 0 < d → size ≡ nat_abs m → shared ≡ gcd size d
    → length (fraction_text (n over d)) ≡ length (sign_of m) + length (decimal (size / shared)) + 1 + length (decimal (d / shared))
over_length n m d size shared same some size_is shared_is = ap length (over_pieces n m d size shared same some size_is shared_is) ∙ pieces-length (sign_of m) (decimal (size / shared)) (decimal (d / shared))

-- its pieces: the sign, a number, `/` and a number
text-length : (x : Fraction)
    → length (fraction_text x) ≡ length (sign_of x.num) + length (decimal (nat_abs x.num)) + 1 + length (decimal x.den)
text-length x = pieces-length (sign_of x.num) (decimal (nat_abs x.num)) (decimal x.den)

-- a number below 2 ^ 126 has at most 38 digits
short_wide_decimal : (n : ℕ) → n < 2 ^ 126 → length (decimal n) ≤ 38
short_wide_decimal n small = length-decimal-le_wide 38 n (omega arith) (omega arith) (omega arith)

short_sign : (num : ℤ) → length (sign_of num) ≤ 1
short_sign (pos n) = omega arith
short_sign (negsuc n) = omega arith

-- a number of 128 bits is written with its sign in at most 40 bytes
pub short_signed : (num : ℤ) → nat_abs num ≤ 2 ^ 127 → length (signed_text num) ≤ 40
short_signed num size =
    let digits : length (decimal (nat_abs num)) ≤ 39 = length-decimal-le_wide 39 (nat_abs num) (omega arith) (omega arith) (omega arith) in
    omega (arith, short_sign num, digits, length-append (sign_of num) (decimal (nat_abs num)))

-- a fraction of two numbers below 2 ^ 126 is written in at most 78 bytes
pub short_text : (x : Fraction) → nat_abs x.num < 2 ^ 126 → x.den < 2 ^ 126 → length (fraction_text x) ≤ 78
short_text x small_num small_den =
    let top : length (decimal (nat_abs x.num)) ≤ 38 = short_wide_decimal (nat_abs x.num) small_num in
    let bottom : length (decimal x.den) ≤ 38 = short_wide_decimal x.den small_den in
    omega (arith, short_sign x.num, top, bottom, text-length x)

pub short_fraction : (num : ℤ) (den : ℕ) → unsigned_abs num < 2 ^ 126 → den < 2 ^ 126 → length (fraction_text (num over den)) ≤ 78
unfolding ◌over◌
short_fraction num zero small_num small_den = short_text (num over zero) (omega arith) (omega arith)
short_fraction num (suc den) small_num small_den =
    let (less_p, less_q) = over_small num (suc den) (omega arith) in
    short_text (num over suc den) (omega (arith, less_p)) (omega (arith, less_q))
