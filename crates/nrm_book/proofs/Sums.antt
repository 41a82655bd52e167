-- Sums of sums.
use Rattle.std.proofs.Common.{ℕ, ◌≡◌, ◌∙◌, ◌+◌, ◌<◌, ◌≤◌, Bool, true, false, cond, eqb, List, [], ◌∷◌, length, get_or, filter, sum, sum_by, inl, inr, refl, sym, ap, subst, suc, zero, zero-add, add-zero, arith}
use Rattle.std.specs.List.{range_with_len}
use Rattle.std.proofs.lemmas.Bool.{cases_Bool, cases_lt}
use Rattle.std.proofs.lemmas.Bool.Decides.{nat_tests}
use Rattle.std.proofs.lemmas.List.FromFn.{fill_by_all}
use Rattle.std.proofs.lemmas.List.Sums.{sum_by-cons, sum-map}

pub sum-plus : {X : Type 0} (f g : X → ℕ) (xs : List X) → sum_by (λ x. f x + g x) xs ≡ sum_by f xs + sum_by g xs
sum-plus f g [] = refl
sum-plus f g (x ∷ xs) =
    let rest = sum-plus f g xs in
    omega (arith, sum_by-cons (λ x. f x + g x) x xs, sum_by-cons f x xs, sum_by-cons g x xs)

pub sum-same : {X : Type 0} (f g : X → ℕ) (xs : List X) → ((x : X) → f x ≡ g x) → sum_by f xs ≡ sum_by g xs
sum-same f g [] same = refl
sum-same f g (x ∷ xs) same =
    let rest = sum-same f g xs same in
    let first = same x in
    omega (arith, sum_by-cons f x xs, sum_by-cons g x xs)

pub sum-zero : {X : Type 0} (xs : List X) → sum_by (λ (x : X). 0) xs ≡ 0
sum-zero [] = refl
sum-zero {X} (x ∷ xs) =
    let rest = sum-zero xs in
    omega (arith, sum_by-cons (λ (x : X). 0) x xs)

-- what the first number adds, which is the only one or another one
first-apart : (p : ℕ → Bool) (a amount first : ℕ) (more : List ℕ) → eqb a first ≡ false → sum_by (λ j. cond (eqb a j) amount 0) (cond (p first) (first ∷ more) more) ≡ sum_by (λ j. cond (eqb a j) amount 0) more
first-apart p a amount first more other = elim (cases_Bool (p first)) [
  | inl e ↦ rw e (sum_by-cons (λ j. cond (eqb a j) amount 0) first more ∙ rw other (zero-add (sum_by (λ j. cond (eqb a j) amount 0) more)))
  | inr e ↦ rw e refl
]

first-hit : (p : ℕ → Bool) (a amount : ℕ) (more : List ℕ) → sum_by (λ j. cond (eqb a j) amount 0) more ≡ 0 → sum_by (λ j. cond (eqb a j) amount 0) (cond (p a) (a ∷ more) more) ≡ cond (p a) amount 0
first-hit p a amount more none =
    let same : eqb a a ≡ true = grind (arith, nat_tests) in
    elim (cases_Bool (p a)) [
      | inl e ↦ rw e (sum_by-cons (λ j. cond (eqb a j) amount 0) a more ∙ rw (same, none) (add-zero amount))
      | inr e ↦ rw e none
    ]

-- what only one number adds, over the numbers of a range that pass a test
no-hit : (p : ℕ → Bool) (a amount start n : ℕ) → a < start → sum_by (λ j. cond (eqb a j) amount 0) (filter p (range_with_len start n)) ≡ 0
no-hit p a amount start zero low = refl
no-hit p a amount start (suc n) low =
    let rest = no-hit p a amount (start + 1) n (omega arith) in
    let other : eqb a start ≡ false = grind (arith, nat_tests) in
    first-apart p a amount start (filter p (range_with_len (start + 1) n)) other ∙ rest

pub one-hit : (p : ℕ → Bool) (a amount start n : ℕ) → start ≤ a → a < start + n → sum_by (λ j. cond (eqb a j) amount 0) (filter p (range_with_len start n)) ≡ cond (p a) amount 0
one-hit p a amount start zero low high = absurd (omega arith)
one-hit p a amount start (suc n) low high = elim (cases_lt start a) [
  | inl under ↦
      let rest = one-hit p a amount (start + 1) n (omega arith) (omega arith) in
      let other : eqb a start ≡ false = grind (arith, nat_tests) in
      first-apart p a amount start (filter p (range_with_len (start + 1) n)) other ∙ rest
  | inr over ↦
      let same : start ≡ a = omega arith in
      subst (λ (x : ℕ). sum_by (λ j. cond (eqb x j) amount 0) (filter p (range_with_len start (suc n))) ≡ cond (p x) amount 0) same
      (first-hit p start amount (filter p (range_with_len (start + 1) n)) (no-hit p start amount (start + 1) n (omega arith)))
]

-- a sum over the numbers below n is no larger where each term is
sum-le-from : (f g : ℕ → ℕ) (start n : ℕ) → ((i : ℕ) → start ≤ i → i < start + n → f i ≤ g i) → sum_by f (range_with_len start n) ≤ sum_by g (range_with_len start n)
sum-le-from f g start zero le = omega arith
sum-le-from f g start (suc n) le =
    let rest = sum-le-from f g (start + 1) n (λ i low high. le i (omega arith) (omega arith)) in
    let first : f start ≤ g start = le start (omega arith) (omega arith) in
    omega (arith, sum_by-cons f start (range_with_len (start + 1) n), sum_by-cons g start (range_with_len (start + 1) n))

pub sum-le : (f g : ℕ → ℕ) (n : ℕ) → ((i : ℕ) → i < n → f i ≤ g i) → sum_by f (range_with_len 0 n) ≤ sum_by g (range_with_len 0 n)
sum-le f g n le = sum-le-from f g 0 n (λ i low high. le i (omega arith))

-- the sum of a list, place by place
pub sum-places : (xs : List ℕ) → sum_by (λ i. get_or xs i 0) (range_with_len 0 (length xs)) ≡ sum xs
sum-places xs =
    sym (sum-map (λ i. get_or xs i 0) (range_with_len 0 (length xs)))
    ∙ sym (ap sum (fill_by_all (λ i. get_or xs i 0) xs (length xs) 0 refl (λ k short. refl)))
