-- Sums of fractions over the numbers below n.
use Rattle.std.proofs.Common.{◌≡◌, ◌≢◌, ℕ, zero, suc, ◌<◌, ◌⊎◌, inl, inr, pos, arith, refl, sym, ap, ap₂, ◌∙◌, [], ◌∷◌}
use Rattle.nrm_number.proofs.Ring.{solve, ◌⊖◌, v0, v1, v2, v3, v4, v5}
use Rattle.nrm_number.proofs.Ring.Expr.{◌⊕◌, ◌⊗◌, e0}
use Rattle.nrm_fraction.specs.Fraction.{Fraction, ◌+ᶠ◌, ◌*ᶠ◌, ◌-ᶠ◌, whole}
use Rattle.nrm_fraction.proofs.Field.{ring_F, IsNonNegative, non_negative_sum}

-- f 0 + f 1 + .. + f (n - 1)
abbrev pub sum_to : ℕ → (ℕ → Fraction) → Fraction
sum_to zero f = whole (pos 0)
sum_to (suc n) f = sum_to n f +ᶠ f n

pub sum_same : (n : ℕ) (f g : ℕ → Fraction) → ((k : ℕ) → k < n → f k ≡ g k) → sum_to n f ≡ sum_to n g
sum_same zero f g h = refl
sum_same (suc n) f g h = ap₂ (λ s t. s +ᶠ t) (sum_same n f g (λ k l. h k (omega arith))) (h n (omega arith))

pub sum_scaled : (n : ℕ) (a : Fraction) (f : ℕ → Fraction) → sum_to n (λ k. a *ᶠ f k) ≡ a *ᶠ sum_to n f
sum_scaled zero a f = solve ring_F (a ∷ []) e0 (v0 ⊗ e0) refl
sum_scaled (suc n) a f = ap (λ s. s +ᶠ a *ᶠ f n) (sum_scaled n a f) ∙ solve ring_F (a ∷ sum_to n f ∷ f n ∷ []) (v0 ⊗ v1 ⊕ v0 ⊗ v2) (v0 ⊗ (v1 ⊕ v2)) refl

-- the sum of (f - a g) h
pub sum_combined : (n : ℕ) (a : Fraction) (f g h : ℕ → Fraction) → sum_to n (λ k. (f k -ᶠ a *ᶠ g k) *ᶠ h k) ≡ sum_to n (λ k. f k *ᶠ h k) -ᶠ a *ᶠ sum_to n (λ k. g k *ᶠ h k)
sum_combined zero a f g h = solve ring_F (a ∷ []) e0 (e0 ⊖ v0 ⊗ e0) refl
sum_combined (suc n) a f g h =
    ap (λ s. s +ᶠ (f n -ᶠ a *ᶠ g n) *ᶠ h n) (sum_combined n a f g h)
    ∙ solve ring_F (a ∷ f n ∷ g n ∷ h n ∷ sum_to n (λ k. f k *ᶠ h k) ∷ sum_to n (λ k. g k *ᶠ h k) ∷ [])
    ((v4 ⊖ v0 ⊗ v5) ⊕ (v1 ⊖ v0 ⊗ v2) ⊗ v3) ((v4 ⊕ v1 ⊗ v3) ⊖ v0 ⊗ (v5 ⊕ v2 ⊗ v3)) refl

-- where one term alone differs
pub sum_changed : (n r : ℕ) (f g : ℕ → Fraction) → r < n → ((k : ℕ) → k < n → k ≢ r → f k ≡ g k) → sum_to n f ≡ sum_to n g +ᶠ (f r -ᶠ g r)
sum_changed zero r f g l h = absurd (omega arith)
sum_changed (suc n) r f g l h = go (λ m. sum_changed n r f g m (λ k l' d. h k (omega arith) d)) (last_or r n l)
  where
    last_or : (r n : ℕ) → r < suc n → (r ≡ n) ⊎ ((r < n) × (n ≢ r))
    last_or r n l = grind arith

    go : (r < n → sum_to n f ≡ sum_to n g +ᶠ (f r -ᶠ g r)) → (r ≡ n) ⊎ ((r < n) × (n ≢ r)) → sum_to (suc n) f ≡ sum_to (suc n) g +ᶠ (f r -ᶠ g r)
    go rest (inl e) =
        ap (λ s. s +ᶠ f n) (sum_same n f g (λ k m. h k (omega arith) (omega arith)))
        ∙ solve ring_F (sum_to n g ∷ f n ∷ g n ∷ []) (v0 ⊕ v1) (v0 ⊕ v2 ⊕ (v1 ⊖ v2)) refl
        ∙ ap (λ t. sum_to (suc n) g +ᶠ (f t -ᶠ g t)) (sym e)
    go rest (inr (m, ne)) =
        ap₂ (λ s t. s +ᶠ t) (rest m) (h n (omega arith) ne)
        ∙ solve ring_F (sum_to n g ∷ g n ∷ f r ∷ g r ∷ []) (v0 ⊕ (v2 ⊖ v3) ⊕ v1) (v0 ⊕ v1 ⊕ (v2 ⊖ v3)) refl

pub sum_nought : (n : ℕ) (f : ℕ → Fraction) → ((k : ℕ) → k < n → f k ≡ whole (pos 0)) → sum_to n f ≡ whole (pos 0)
sum_nought zero f h = refl
sum_nought (suc n) f h = ap₂ (λ s t. s +ᶠ t) (sum_nought n f (λ k l. h k (omega arith))) (h n (omega arith)) ∙ solve ring_F [] (e0 ⊕ e0) e0 refl

-- where one term alone isn't 0
pub sum_single : (n r : ℕ) (f : ℕ → Fraction) → r < n → ((k : ℕ) → k < n → k ≢ r → f k ≡ whole (pos 0)) → sum_to n f ≡ f r
sum_single n r f l h =
    sum_changed n r f (λ k. whole (pos 0)) l h
    ∙ ap (λ s. s +ᶠ (f r -ᶠ whole (pos 0))) (sum_nought n (λ k. whole (pos 0)) (λ k m. refl))
    ∙ solve ring_F (f r ∷ []) (e0 ⊕ (v0 ⊖ e0)) v0 refl

pub sum_non_negative : (n : ℕ) (f : ℕ → Fraction) → ((k : ℕ) → k < n → IsNonNegative (f k)) → IsNonNegative (sum_to n f)
sum_non_negative zero f h = inr refl
sum_non_negative (suc n) f h = non_negative_sum (sum_to n f) (f n) (sum_non_negative n f (λ k l. h k (omega arith))) (h n (omega arith))

pub sum_added : (n : ℕ) (f g : ℕ → Fraction) → sum_to n (λ k. f k +ᶠ g k) ≡ sum_to n f +ᶠ sum_to n g
sum_added zero f g = solve ring_F [] e0 (e0 ⊕ e0) refl
sum_added (suc n) f g = ap (λ s. s +ᶠ (f n +ᶠ g n)) (sum_added n f g) ∙ solve ring_F (sum_to n f ∷ sum_to n g ∷ f n ∷ g n ∷ []) ((v0 ⊕ v1) ⊕ (v2 ⊕ v3)) ((v0 ⊕ v2) ⊕ (v1 ⊕ v3)) refl

pub sum_swapped : (n m : ℕ) (f : ℕ → ℕ → Fraction) → sum_to n (λ j. sum_to m (λ k. f j k)) ≡ sum_to m (λ k. sum_to n (λ j. f j k))
sum_swapped zero m f = sym (sum_nought m (λ k. whole (pos 0)) (λ k l. refl))
sum_swapped (suc n) m f = ap (λ s. s +ᶠ sum_to m (λ k. f n k)) (sum_swapped n m f) ∙ sym (sum_added m (λ k. sum_to n (λ j. f j k)) (λ k. f n k))
