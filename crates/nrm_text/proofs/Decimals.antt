-- Decimal text is a whole number, and its value is the number that was written.
use Rattle.std.proofs.Common.{ℕ, zero, suc, ◌≡◌, ◌⊎◌, ◌+◌, ◌-◌, ◌*◌, ◌/◌, ◌%◌, ◌^◌, ◌<◌, ◌≤◌, true, false, not, ◌&&◌, ◌==◌, List, [], ◌∷◌, ◌++◌}
use Rattle.std.proofs.Common.{length, get_or, Some, refl, ap, arith, inl, inr, nat_le, length-append}
use Rattle.std.specs.Prelude.{decimal, fold}
use Rattle.std.specs.List.{list_all}
use Rattle.std.specs.Char.{is_ascii_digit}
use Rattle.std.proofs.lemmas.Bool.{and_parts, cases_lt}
use Rattle.std.proofs.lemmas.Fmt.{decimal_by_steps, decimal_digit, first_decimal, length-decimal-le}
use Rattle.std.proofs.lemmas.List.Folds.{list_all-append}
use Rattle.nrm_text.specs.Numbers.{is_whole, value_of, whole_in, whole_between}

digit-is : (d : ℕ) → d < 10 → is_ascii_digit (48 + d) ≡ true
digit-is d few = let low : nat_le 48 (48 + d) ≡ true = grind arith in let high : nat_le (48 + d) 57 ≡ true = grind arith in rw (low, high) refl

-- one more digit at the end
fold-more : (a : ℕ) (ds : List ℕ) (c : ℕ)
    → fold (λ value c. value * 10 + (c - 48)) a (ds ++ c ∷ []) ≡ fold (λ value c. value * 10 + (c - 48)) a ds * 10 + (c - 48)
fold-more a [] c = refl
fold-more a (d ∷ ds) c = fold-more (a * 10 + (d - 48)) ds c

-- digits that write the number
abbrev Writes : ℕ → List ℕ → Type 0
Writes n ds = (list_all is_ascii_digit ds ≡ true) × (value_of ds ≡ n) × (0 < length ds)

writes-one : (n : ℕ) → n < 10 → Writes n ((48 + n) ∷ [])
writes-one n few = (rw (digit-is n few) refl, omega arith, omega arith)

writes-more : (n : ℕ) (ds : List ℕ) → 10 ≤ n → Writes (n / 10) ds → Writes n (ds ++ ((48 + n % 10) ∷ []))
writes-more n ds many (digits, value, some) =
    let last : n % 10 < 10 = omega arith in
    let all : list_all is_ascii_digit ((48 + n % 10) ∷ []) ≡ true = rw (digit-is (n % 10) last) refl in
    (rw (list_all-append is_ascii_digit ds ((48 + n % 10) ∷ []), digits, all) refl, rw (fold-more 0 ds (48 + n % 10), value) (omega arith), omega (arith, length-append ds ((48 + n % 10) ∷ [])))

pub decimal-writes : (n : ℕ) → n < 2 ^ 64
    → (list_all is_ascii_digit (decimal n) ≡ true) × (value_of (decimal n) ≡ n) × (0 < length (decimal n))
decimal-writes n small = decimal_by_steps Writes writes-one writes-more n small

pub value_of-decimal : (n : ℕ) → n < 2 ^ 64 → value_of (decimal n) ≡ n
value_of-decimal n small = (decimal-writes n small).1

pub decimal-digits : (n : ℕ) → n < 2 ^ 64 → list_all is_ascii_digit (decimal n) ≡ true
decimal-digits n small = (decimal-writes n small).0

-- digits that begin with no 0, or are one digit alone, are a whole number
whole-from : (ds : List ℕ) → list_all is_ascii_digit ds ≡ true → 0 < length ds → (48 < get_or ds 0 0) ⊎ (length ds ≡ 1) → is_whole ds ≡ true
whole-from [] digits some h = absurd (omega arith)
whole-from (c ∷ []) digits some h = let one : (is_ascii_digit c && true) ≡ true = digits in grind arith
whole-from (c ∷ d ∷ more) digits some (inr alone) = absurd (omega arith)
whole-from (c ∷ d ∷ more) digits some (inl above) =
    let other : (c == 48) ≡ false = grind arith in
    let both : (is_ascii_digit c && list_all is_ascii_digit (d ∷ more)) ≡ true = digits in
    grind arith

-- and a whole number is digits
pub whole-digits : (xs : List ℕ) → is_whole xs ≡ true → list_all is_ascii_digit xs ≡ true
whole-digits [] whole = refl
whole-digits (c ∷ []) whole = let digit : is_ascii_digit c ≡ true = whole in rw digit refl
whole-digits (c ∷ d ∷ more) whole =
    let (front, others) = and_parts (is_ascii_digit c && not (c == 48)) (list_all is_ascii_digit (d ∷ more)) whole in
    let digit = (and_parts (is_ascii_digit c) (not (c == 48)) front).0 in
    rw (digit, others) refl

pub is_whole-decimal : (n : ℕ) → n < 2 ^ 64 → is_whole (decimal n) ≡ true
is_whole-decimal n small =
    let (digits, value, some) = decimal-writes n small in
    whole-from (decimal n) digits some (elim (cases_lt 0 n) [
      | inl above ↦ inl (first_decimal n above small)
      | inr none ↦ let few : n < 10 = omega arith in inr (ap length (decimal_digit n few))
    ])

pub whole_in-decimal : (n : ℕ) → n < 2 ^ 64 → whole_in (decimal n) ≡ Some n
whole_in-decimal n small = rw (is_whole-decimal n small, value_of-decimal n small) refl

pub whole_between-decimal : (low high n : ℕ) → n < 2 ^ 64 → low ≤ n → n ≤ high → whole_between low high (decimal n) ≡ Some n
whole_between-decimal low high n small above below =
    let a : nat_le low n ≡ true = grind arith in
    let b : nat_le n high ≡ true = grind arith in
    rw (is_whole-decimal n small, value_of-decimal n small, a, b) refl

-- a number of 64 bits has at most 20 digits
pub short_decimal : (n : ℕ) → n < 2 ^ 64 → length (decimal n) ≤ 20
short_decimal n small = length-decimal-le 20 n (omega arith) (omega arith) small

-- a number of no less than 10 ^ k has more than k digits
abbrev HasMore : ℕ → List ℕ → Type 0
HasMore n ds = (k : ℕ) → 10 ^ k ≤ n → k < length ds

some-power : (k : ℕ) → 0 < 10 ^ k
some-power zero = omega arith
some-power (suc k) = omega (arith, some-power k)

more-digit : (n : ℕ) → n < 10 → HasMore n ((48 + n) ∷ [])
more-digit n few zero reached = omega arith
more-digit n few (suc k) reached = absurd (omega (arith, some-power k))

more-step : (n : ℕ) (ds : List ℕ) → 10 ≤ n → HasMore (n / 10) ds → HasMore n (ds ++ ((48 + n % 10) ∷ []))
more-step n ds many more zero reached = omega (arith, length-append ds ((48 + n % 10) ∷ []))
more-step n ds many more (suc k) reached = let tenth : 10 ^ k ≤ n / 10 = omega arith in omega (arith, more k tenth, length-append ds ((48 + n % 10) ∷ []))

-- from 10 ^ k on and below the next power a number has k + 1 digits
pub digits-of_power : (n k : ℕ) → n < 2 ^ 64 → 10 ^ k ≤ n → n < 10 * 10 ^ k → length (decimal n) ≡ k + 1
digits-of_power n k small reached below =
    let few : length (decimal n) ≤ suc k = length-decimal-le (suc k) n (omega arith) (omega arith) small in
    let many : k < length (decimal n) = decimal_by_steps HasMore more-digit more-step n small k reached in
    omega (arith, few, many)
