-- Sums of whole numbers below n.
use Rattle.std.proofs.Common.{◌≡◌, ◌≢◌, ℕ, zero, suc, ◌+◌, ◌*◌, ◌<◌, ◌≤◌, ◌⊎◌, inl, inr, arith, refl, ap, ap₂, ◌∙◌, cond, eqb, eq-eqb, ne_eqb}
use Rattle.std.proofs.lemmas.Bool.{cases_eq}

-- f 0 + f 1 + .. + f (n - 1)
abbrev pub sum_below : ℕ → (ℕ → ℕ) → ℕ
sum_below zero f = 0
sum_below (suc n) f = sum_below n f + f n

pub sum_same : (n : ℕ) (f g : ℕ → ℕ) → ((k : ℕ) → k < n → f k ≡ g k) → sum_below n f ≡ sum_below n g
sum_same zero f g h = refl
sum_same (suc n) f g h = ap₂ (λ s t. s + t) (sum_same n f g (λ k l. h k (omega arith))) (h n (omega arith))

pub sum_le : (n : ℕ) (f g : ℕ → ℕ) → ((k : ℕ) → k < n → f k ≤ g k) → sum_below n f ≤ sum_below n g
sum_le zero f g h = omega arith
sum_le (suc n) f g h = omega (arith, sum_le n f g (λ k l. h k (omega arith)), h n (omega arith))

pub sum_plus : (n : ℕ) (f g : ℕ → ℕ) → sum_below n (λ k. f k + g k) ≡ sum_below n f + sum_below n g
sum_plus zero f g = refl
sum_plus (suc n) f g = omega (arith, sum_plus n f g)

pub sum_times : (n : ℕ) (a : ℕ) (f : ℕ → ℕ) → sum_below n (λ k. a * f k) ≡ a * sum_below n f
sum_times zero a f = omega arith
sum_times (suc n) a f = omega (arith, sum_times n a f)

-- the sum from the front
pub sum_front : (n : ℕ) (f : ℕ → ℕ) → sum_below (suc n) f ≡ f 0 + sum_below n (λ k. f (suc k))
sum_front zero f = omega arith
sum_front (suc n) f = omega (arith, sum_front n f)

pub sum_zero : (n : ℕ) (f : ℕ → ℕ) → ((k : ℕ) → k < n → f k ≡ 0) → sum_below n f ≡ 0
sum_zero zero f h = refl
sum_zero (suc n) f h = omega (arith, sum_zero n f (λ k l. h k (omega arith)), h n (omega arith))

-- the one term of leg l
term_yes : (k l : ℕ) (f : ℕ → ℕ) (x : ℕ) → k ≡ l → f k * cond (eqb k l) x 0 ≡ f k * x
term_yes k l f x e = ap (λ b. f k * cond b x 0) (eq-eqb k l e)

term_no : (k l : ℕ) (f : ℕ → ℕ) (x : ℕ) → k ≢ l → f k * cond (eqb k l) x 0 ≡ 0
term_no k l f x d = ap (λ b. f k * cond b x 0) (ne_eqb k l d) ∙ omega arith

pub only : (n l : ℕ) (f : ℕ → ℕ) (x : ℕ) → l < n → sum_below n (λ k. f k * cond (eqb k l) x 0) ≡ f l * x
only zero l f x h = absurd (omega arith)
only (suc n) l f x h = go (only n l f x) (cases_eq n l)
  where
    go : (l < n → sum_below n (λ k. f k * cond (eqb k l) x 0) ≡ f l * x) → (n ≡ l) ⊎ (n ≢ l) → sum_below (suc n) (λ k. f k * cond (eqb k l) x 0) ≡ f l * x
    go rest (inl e) =
        ap₂ (λ s t. s + t) (sum_zero n (λ k. f k * cond (eqb k l) x 0) (λ k m. term_no k l f x (omega arith))) (term_yes n l f x e)
        ∙ ap (λ t. 0 + f t * x) e ∙ omega arith
    go rest (inr d) = ap₂ (λ s t. s + t) (rest (omega arith)) (term_no n l f x d) ∙ omega arith
