-- Sums over the numbers of a range, and what a linear program makes of a list that was made from one.
use Rattle.std.proofs.Common.{ℕ, zero, suc, ◌≡◌, ◌∙◌, ◌+◌, ◌*◌, ◌<◌, ◌≤◌, Bool, true, cond, eqb, List, [], ◌∷◌, length, get_or, map, filter, sum_by, inl, inr, refl, sym, ap, ap₂, arith}
use Rattle.std.specs.List.{range_with_len}
use Rattle.std.proofs.lemmas.Bool.{cases_Bool, cases_lt, eqb-true}
use Rattle.std.proofs.lemmas.List.Sums.{sum_by-cons}
use Rattle.nrm_lp.specs.Program.{dot, load, names}
use Rattle.nrm_book.proofs.Sums.{one-hit, sum-same, sum-zero}

-- ---- what only one number adds
filter-all : (xs : List ℕ) → filter (λ x. true) xs ≡ xs
filter-all [] = refl
filter-all (x ∷ xs) = ap (λ (rest : List ℕ). x ∷ rest) (filter-all xs)

pub only-one : (a amount n : ℕ) → a < n → sum_by (λ j. cond (eqb a j) amount 0) (range_with_len 0 n) ≡ amount
only-one a amount n below =
    ap (sum_by (λ j. cond (eqb a j) amount 0)) (sym (filter-all (range_with_len 0 n))) ∙ one-hit (λ j. true) a amount 0 n (omega arith) (omega arith)

-- times a number for each place, which is 0 past the range
pub one-term : (f : ℕ → ℕ) (a amount n : ℕ) → (n ≤ a → f a ≡ 0) → sum_by (λ j. f j * cond (eqb a j) amount 0) (range_with_len 0 n) ≡ f a * amount
one-term f a amount n beyond =
    sum-same (λ j. f j * cond (eqb a j) amount 0) (λ j. cond (eqb a j) (f a * amount) 0) (range_with_len 0 n) at ∙ whole
  where
    at : (j : ℕ) → f j * cond (eqb a j) amount 0 ≡ cond (eqb a j) (f a * amount) 0
    at j = elim (cases_Bool (eqb a j)) [
      | inl e ↦ let same : a ≡ j = eqb-true a j e in rw e (ap (λ k. f k * amount) (sym same))
      | inr e ↦ rw e (omega arith)
    ]

    none : n ≤ a → f a * amount ≡ 0
    none past = ap (λ m. m * amount) (beyond past) ∙ omega arith

    nought : (b : Bool) → cond {A = ℕ} b 0 0 ≡ 0
    nought b = elim (cases_Bool b) [ inl e ↦ rw e refl | inr e ↦ rw e refl ]

    whole : sum_by (λ j. cond (eqb a j) (f a * amount) 0) (range_with_len 0 n) ≡ f a * amount
    whole = elim (cases_lt a n) [
      | inl below ↦ only-one a (f a * amount) n below
      | inr past ↦
          ap (λ m. sum_by (λ j. cond (eqb a j) m 0) (range_with_len 0 n)) (none past)
          ∙ sum-same (λ j. cond (eqb a j) 0 0) (λ j. 0) (range_with_len 0 n) (λ j. nought (eqb a j))
          ∙ sum-zero (range_with_len 0 n)
          ∙ sym (none past)
    ]

-- ---- the numbers that pass a test
passing-cons : (p : ℕ → Bool) (f : ℕ → ℕ) (x : ℕ) (more : List ℕ) → sum_by f (cond (p x) (x ∷ more) more) ≡ cond (p x) (f x) 0 + sum_by f more
passing-cons p f x more = elim (cases_Bool (p x)) [
  | inl e ↦ rw e (sum_by-cons f x more)
  | inr e ↦ rw e (omega arith)
]

pub passing-le : (p : ℕ → Bool) (f : ℕ → ℕ) (j start n : ℕ) → start ≤ j → j < start + n → p j ≡ true → f j ≤ sum_by f (filter p (range_with_len start n))
passing-le p f j start zero low high passes = absurd (omega arith)
passing-le p f j start (suc n) low high passes = elim (cases_lt start j) [
  | inl under ↦
      let rest = passing-le p f j (start + 1) n (omega arith) (omega arith) passes in
      omega (arith, rest, passing-cons p f start (filter p (range_with_len (start + 1) n)))
  | inr over ↦
      let same : start ≡ j = omega arith in
      let term : cond (p start) (f start) 0 ≡ f j = ap (λ k. cond (p k) (f k) 0) same ∙ ap (λ b. cond b (f j) 0) passes in
      omega (arith, term, passing-cons p f start (filter p (range_with_len (start + 1) n)))
]

-- the load of a leg is a sum over the products that use it
pub load-is : (i : ℕ) (f : ℕ → ℕ) (p : ℕ → Bool) (a : ℕ) (legs : List (List ℕ)) → ((k : ℕ) → k < length legs → p (a + k) ≡ names i (get_or legs k []))
    → load i legs (map f (range_with_len a (length legs))) ≡ sum_by f (filter p (range_with_len a (length legs)))
load-is i f p a [] each = refl
load-is i f p a (ls ∷ legs) each =
    ap₂ (λ s t. s + t) (ap (λ b. cond b (f a) 0) (sym here)) (load-is i f p (a + 1) legs later) ∙ sym (passing-cons p f a (filter p (range_with_len (a + 1) (length legs))))
  where
    first : a ≡ a + 0
    first = omega arith

    here : p a ≡ names i ls
    here = ap p first ∙ each 0 (omega arith)

    moved : (k : ℕ) → a + 1 + k ≡ a + suc k
    moved k = omega arith

    later : (k : ℕ) → k < length legs → p (a + 1 + k) ≡ names i (get_or legs k [])
    later k short = ap p (moved k) ∙ each (suc k) (omega arith)

-- and the gain one over the products
pub dot-is : (f g : ℕ → ℕ) (a : ℕ) (fares : List ℕ) → ((k : ℕ) → k < length fares → g (a + k) ≡ get_or fares k 0)
    → dot fares (map f (range_with_len a (length fares))) ≡ sum_by (λ j. g j * f j) (range_with_len a (length fares))
dot-is f g a [] each = refl
dot-is f g a (fare ∷ fares) each =
    ap₂ (λ s t. s + t) (ap (λ n. n * f a) (sym here)) (dot-is f g (a + 1) fares later) ∙ sym (sum_by-cons (λ j. g j * f j) a (range_with_len (a + 1) (length fares)))
  where
    first : a ≡ a + 0
    first = omega arith

    here : g a ≡ fare
    here = ap g first ∙ each 0 (omega arith)

    moved : (k : ℕ) → a + 1 + k ≡ a + suc k
    moved k = omega arith

    later : (k : ℕ) → k < length fares → g (a + 1 + k) ≡ get_or fares k 0
    later k short = ap g (moved k) ∙ each (suc k) (omega arith)
