-- Counts over falling numbers, and the greatest count that passes a test.
use Rattle.std.proofs.Common.{ℕ, zero, suc, ◌≡◌, ◌∙◌, ◌+◌, ◌-◌, ◌<◌, ◌≤◌, Bool, true, false, cond, inl, inr, refl, sym, ap, arith, List, [], ◌∷◌, length, get_or, nat_lt}
use Rattle.std.specs.List.{count_by}
use Rattle.std.specs.List.Sorted.{IsPermutation, IsSortedBy}
use Rattle.std.proofs.lemmas.Bool.{cases_lt, lt-ltb, le-ltb, ltb-false}
use Rattle.std.proofs.lemmas.List.{get_or_past}
use Rattle.std.proofs.lemmas.List.Sums.{sum_by-cons, count_by-le-length}
use Rattle.std.proofs.lemmas.List.Sorted.{IsStrictWeakOrder-by_number, IsStrictWeakOrder-flip, sorted_far, sum_by-IsPermutation}
use Rattle.nrm_emsr.specs.Inner.Ranked.{Falls, greatest_count}

-- ---- numbers that are sorted so that the greater comes first
pub sorted-falls : (xs : List ℕ) → IsSortedBy (λ x y. nat_lt y x) xs → Falls xs
sorted-falls xs sorted i j d low short =
    ltb-false (get_or xs i d) (get_or xs j d) (sorted_far (λ x y. nat_lt y x) (IsStrictWeakOrder-flip nat_lt (IsStrictWeakOrder-by_number (λ (x : ℕ). x))) xs sorted i j d (omega arith) short)

-- ---- how many of some falling numbers are over y
abbrev one_if_over : ℕ → ℕ → ℕ
one_if_over y x = cond (nat_lt y x) 1 0

over-cons : (y x : ℕ) (xs : List ℕ) → count_by (nat_lt y) (x ∷ xs) ≡ one_if_over y x + count_by (nat_lt y) xs
over-cons y x xs = sum_by-cons (one_if_over y) x xs

one-yes : (y x : ℕ) → y < x → one_if_over y x ≡ 1
one-yes y x h = ap (λ b. cond b 1 0) (lt-ltb y x h)

one-no : (y x : ℕ) → x ≤ y → one_if_over y x ≡ 0
one-no y x h = ap (λ b. cond b 1 0) (le-ltb y x h)

one-le : (y x : ℕ) → one_if_over y x ≤ 1
one-le y x = elim (nat_lt y x) as (λ b. cond b 1 0 ≤ 1) [ true ↦ omega arith | false ↦ omega arith ]

falls-tail : (x : ℕ) (xs : List ℕ) → Falls (x ∷ xs) → Falls xs
falls-tail x xs h i j d low short = h (suc i) (suc j) d (omega arith) (omega arith)

falls-below : (x : ℕ) (xs : List ℕ) → Falls (x ∷ xs) → (k : ℕ) → k < length xs → get_or xs k 0 ≤ x
falls-below x xs h k short = h 0 (suc k) 0 (omega arith) (omega arith)

-- where the number at place c is no more than y, at most c are over y
over-at-most : (xs : List ℕ) (c y : ℕ) → Falls xs → get_or xs c 0 ≤ y → count_by (nat_lt y) xs ≤ c
over-at-most [] c y falls h = omega arith
over-at-most (x ∷ xs) zero y falls h =
    omega (arith, over-cons y x xs, one-no y x h, over-at-most xs 0 y (falls-tail x xs falls) (first xs (falls-below x xs falls)))
  where
    first : (ys : List ℕ) → ((k : ℕ) → k < length ys → get_or ys k 0 ≤ x) → get_or ys 0 0 ≤ y
    first [] g = omega arith
    first (z ∷ zs) g = omega (arith, g 0 (omega arith))
over-at-most (x ∷ xs) (suc c) y falls h = omega (arith, over-cons y x xs, one-le y x, over-at-most xs c y (falls-tail x xs falls) h)

-- where it is more, more than c are over y
over-more-than : (xs : List ℕ) (c y : ℕ) → Falls xs → y < get_or xs c 0 → c < count_by (nat_lt y) xs
over-more-than [] c y falls h = absurd (omega arith)
over-more-than (x ∷ xs) zero y falls h = omega (arith, over-cons y x xs, one-yes y x h)
over-more-than (x ∷ xs) (suc c) y falls h =
    let short : c < length xs = elim (cases_lt c (length xs)) [ inl less ↦ less | inr past ↦ absurd (omega (arith, get_or_past xs c 0 past)) ] in
    omega (arith, over-cons y x xs, one-yes y x (omega (arith, falls-below x xs falls c short)), over-more-than xs c y (falls-tail x xs falls) h)

over-permuted : (y : ℕ) (xs ys : List ℕ) → IsPermutation xs ys → count_by (nat_lt y) ys ≡ count_by (nat_lt y) xs
over-permuted y xs ys h = sum_by-IsPermutation (one_if_over y) xs ys h

-- ---- the greatest count that passes
pub greatest-yes : (test : ℕ → Bool) (n : ℕ) → test n ≡ true → greatest_count test n ≡ n
greatest-yes test zero h = refl
greatest-yes test (suc n) h = ap (λ (b : Bool). cond b (suc n) (greatest_count test n)) h

pub greatest-no : (test : ℕ → Bool) (n : ℕ) → 0 < n → test n ≡ false → greatest_count test (n - 1) ≡ greatest_count test n
greatest-no test zero some h = absurd (omega arith)
greatest-no test (suc n) some h = ap (greatest_count test) one ∙ sym (ap (λ (b : Bool). cond b (suc n) (greatest_count test n)) h)
  where
    one : suc n - 1 ≡ n
    one = omega arith

record IsGreatest (test : ℕ → Bool) (n m : ℕ) : Type 0 where
  within : m ≤ n
  passes : test m ≡ true
  fails : (count : ℕ) → m < count → count ≤ n → test count ≡ false

greatest-is : (test : ℕ → Bool) (n : ℕ) → test 0 ≡ true → IsGreatest test n (greatest_count test n)
greatest-is test zero none = record { within = omega arith; passes = none; fails = λ count over few. absurd (omega arith) }
greatest-is test (suc n) none = go (greatest-is test n none) (test (suc n)) refl
  where
    go : IsGreatest test n (greatest_count test n) → (t : Bool) → test (suc n) ≡ t → IsGreatest test (suc n) (greatest_count test (suc n))
    go rest true e = rw e (record { within = omega arith; passes = e; fails = λ count over few. absurd (omega arith) })
    go rest false e = rw e (record {
      within = omega (arith, rest.within);
      passes = rest.passes;
      fails = λ count over few. elim (cases_lt count (suc n)) [
        | inl less ↦ rest.fails count over (omega arith)
        | inr more ↦ let same : count ≡ suc n = omega arith in ap test same ∙ e
      ];
    })

-- ---- the number at the place of the greatest count that passes is the least over which a count passes
module _ (test : ℕ → Bool) (below : (c d : ℕ) → c ≤ d → test d ≡ true → test c ≡ true) (none : test 0 ≡ true)
    (xs falling : List ℕ) (moved : IsPermutation xs falling) (falls : Falls falling) where
  abbrev m : ℕ
  m = greatest_count test (length xs)

  abbrev pub number_at : ℕ
  number_at = get_or falling m 0

  pub number-passes : test (count_by (nat_lt number_at) xs) ≡ true
  number-passes =
      below (count_by (nat_lt number_at) xs) m (omega (arith, over-permuted number_at xs falling moved, over-at-most falling m number_at falls (omega arith)))
      (greatest-is test (length xs) none).passes

  pub lower-fails : (y : ℕ) → y < number_at → test (count_by (nat_lt y) xs) ≡ false
  lower-fails y lower =
      (greatest-is test (length xs) none).fails (count_by (nat_lt y) xs)
      (omega (arith, over-permuted y xs falling moved, over-more-than falling m y falls lower)) (count_by-le-length (nat_lt y) xs)
