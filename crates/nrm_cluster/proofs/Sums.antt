-- Sums over places.
use Rattle.std.proofs.Common.{◌≡◌, ℕ, zero, suc, ◌+◌, ◌*◌, ◌-◌, ◌<◌, ◌≤◌, Bool, true, false, arith, inl, inr, refl, ap, ◌∙◌}
use Rattle.std.proofs.lemmas.Bool.{cases_lt}
use Rattle.nrm_cluster.specs.Divisions.{sum_from, first_within}

pub sum-split : (f : ℕ → ℕ) (a m n : ℕ) → sum_from f a (m + n) ≡ sum_from f a m + sum_from f (a + m) n
sum-split f a m zero = ap (sum_from f a) (none m) ∙ none' (sum_from f a m)
  where
    none : (m : ℕ) → m + 0 ≡ m
    none m = omega arith

    none' : (s : ℕ) → s ≡ s + 0
    none' s = omega arith
sum-split f a m (suc n) =
    ap (sum_from f a) (one-more m n)
    ∙ omega (arith, sum-split f a m n, ap f (moved a m n))
  where
    one-more : (m n : ℕ) → m + suc n ≡ suc (m + n)
    one-more m n = omega arith

    moved : (a m n : ℕ) → a + (m + n) ≡ a + m + n
    moved a m n = omega arith

-- of a sum of m places and the rest of n
pub sum-parts : (f : ℕ → ℕ) (a m n : ℕ) → m ≤ n → sum_from f a n ≡ sum_from f a m + sum_from f (a + m) (n - m)
sum-parts f a m n h = ap (sum_from f a) whole ∙ sum-split f a m (n - m)
  where
    whole : n ≡ m + (n - m)
    whole = omega arith

pub sum-le : (f g : ℕ → ℕ) (a n : ℕ) → ((k : ℕ) → a ≤ k → k < a + n → f k ≤ g k) → sum_from f a n ≤ sum_from g a n
sum-le f g a zero h = omega arith
sum-le f g a (suc n) h = omega (arith, sum-le f g a n (λ k l m. h k l (omega arith)), h (a + n) (omega arith) (omega arith))

-- where each term is at most another and t times a weight
pub sum-at-most : (f g w : ℕ → ℕ) (t a n : ℕ) → ((k : ℕ) → a ≤ k → k < a + n → f k ≤ g k + t * w k) → sum_from f a n ≤ sum_from g a n + t * sum_from w a n
sum-at-most f g w t a zero h = omega arith
sum-at-most f g w t a (suc n) h = omega (arith, sum-at-most f g w t a n (λ k l m. h k l (omega arith)), h (a + n) (omega arith) (omega arith))

-- where each term and t times a weight is at most another
pub sum-with-weight : (f g w : ℕ → ℕ) (t a n : ℕ) → ((k : ℕ) → a ≤ k → k < a + n → f k + t * w k ≤ g k) → sum_from f a n + t * sum_from w a n ≤ sum_from g a n
sum-with-weight f g w t a zero h = omega arith
sum-with-weight f g w t a (suc n) h = omega (arith, sum-with-weight f g w t a n (λ k l m. h k l (omega arith)), h (a + n) (omega arith) (omega arith))

-- ---- the first number that passes
pub record IsFirstWithin (test : ℕ → Bool) (from end k : ℕ) : Type 0 where
  pub above : from ≤ k
  pub within : k ≤ end
  pub passes : k < end → test k ≡ true
  pub first : (i : ℕ) → from ≤ i → i < k → test i ≡ false

pub first-is : (test : ℕ → Bool) (n from : ℕ) → IsFirstWithin test from (from + n) (first_within test n from)
first-is test zero from = record { above = omega arith; within = omega arith; passes = λ h. absurd (omega arith); first = λ i l m. absurd (omega arith) }
first-is test (suc n) from = go (first-is test n (from + 1)) (test from) refl
  where
    go : IsFirstWithin test (from + 1) (from + 1 + n) (first_within test n (from + 1)) → (b : Bool) → test from ≡ b → IsFirstWithin test from (from + suc n) (first_within test (suc n) from)
    go rest true e = rw (e, first_within) (record { above = omega arith; within = omega arith; passes = λ h. e; first = λ i l m. absurd (omega arith) })
    go rest false e = rw (e, first_within) (record {
      above = omega (arith, rest.above);
      within = omega (arith, rest.within);
      passes = λ h. rest.passes (omega arith);
      first = λ i l m. elim (cases_lt from i) [
        | inl more ↦ rest.first i (omega arith) m
        | inr same ↦ let equal : i ≡ from = omega arith in ap test equal ∙ e
      ];
    })
