-- The fractions are an ordered field: `ring_F` for `solve`, division by what isn't 0, and the order.
use Rattle.std.proofs.Common.{◌≡◌, ℕ, zero, suc, ◌*◌, ◌⊎◌, inl, inr, ℤ, pos, negsuc, ◌+ℤ◌, ◌*ℤ◌, neg_ℤ, ◌<ℤ◌, arith, refl, sym, ap, ap₂, ◌∙◌, subst, [], ◌∷◌}
use Rattle.std.proofs.lemmas.Int.{ints}
use Rattle.nrm_number.proofs.Integers.{ring_ℤ, *ℤ-pos-lt, *ℤ-pos-lt_cancel, positive_sum, positive_product, cases_ℤ}
use Rattle.nrm_number.proofs.Ring.{Ring, solve, ◌⊖◌, v0, v1, v2, v3, v4, v5}
use Rattle.nrm_number.proofs.Ring.Expr.{◌⊕◌, ◌⊗◌, minus, e0, e1}
use native.Mathlib.Nat.{mul-pos}
use Rattle.nrm_fraction.specs.Fraction.{Fraction, ◌over◌, ◌+ᶠ◌, ◌*ᶠ◌, ◌-ᶠ◌, inverse, over_whole, negative, whole, ◌<ᶠ◌}
use Rattle.nrm_fraction.proofs.Values.{IsValue, IsValue_self, IsValue_over, IsValue_sum, IsValue_product, IsValue_negative, same_value, same_if_cross, den_pos}

pub IsValue_whole : (n : ℤ) → IsValue (whole n) n 1
unfolding whole
IsValue_whole n = IsValue_over n 1 (omega arith)

pub +ᶠ_assoc : (x y z : Fraction) → (x +ᶠ y) +ᶠ z ≡ x +ᶠ (y +ᶠ z)
+ᶠ_assoc x y z =
    same_value (x +ᶠ y +ᶠ z) (x +ᶠ (y +ᶠ z)) _ _ _ _
    (IsValue_sum (x +ᶠ y) z _ _ _ _ (IsValue_sum x y _ _ _ _ (IsValue_self x) (IsValue_self y)) (IsValue_self z))
    (IsValue_sum x (y +ᶠ z) _ _ _ _ (IsValue_self x) (IsValue_sum y z _ _ _ _ (IsValue_self y) (IsValue_self z)))
    (solve ring_ℤ (x.num ∷ y.num ∷ z.num ∷ pos x.den ∷ pos y.den ∷ pos z.den ∷ [])
    (((v0 ⊗ v4 ⊕ v1 ⊗ v3) ⊗ v5 ⊕ v2 ⊗ (v3 ⊗ v4)) ⊗ (v3 ⊗ (v4 ⊗ v5)))
    ((v0 ⊗ (v4 ⊗ v5) ⊕ (v1 ⊗ v5 ⊕ v2 ⊗ v4) ⊗ v3) ⊗ (v3 ⊗ v4 ⊗ v5)) refl)

pub +ᶠ_comm : (x y : Fraction) → x +ᶠ y ≡ y +ᶠ x
+ᶠ_comm x y =
    same_value (x +ᶠ y) (y +ᶠ x) _ _ _ _
    (IsValue_sum x y _ _ _ _ (IsValue_self x) (IsValue_self y))
    (IsValue_sum y x _ _ _ _ (IsValue_self y) (IsValue_self x))
    (solve ring_ℤ (x.num ∷ y.num ∷ pos x.den ∷ pos y.den ∷ []) ((v0 ⊗ v3 ⊕ v1 ⊗ v2) ⊗ (v3 ⊗ v2)) ((v1 ⊗ v2 ⊕ v0 ⊗ v3) ⊗ (v2 ⊗ v3)) refl)

pub +ᶠ-nought : (x : Fraction) → x +ᶠ whole (pos 0) ≡ x
+ᶠ-nought x =
    same_value (x +ᶠ whole (pos 0)) x _ _ _ _
    (IsValue_sum x (whole (pos 0)) _ _ _ _ (IsValue_self x) (IsValue_whole (pos 0))) (IsValue_self x)
    (solve ring_ℤ (x.num ∷ pos x.den ∷ []) ((v0 ⊗ e1 ⊕ e0 ⊗ v1) ⊗ v1) (v0 ⊗ (v1 ⊗ e1)) refl)

pub +ᶠ-negative : (x : Fraction) → x +ᶠ negative x ≡ whole (pos 0)
+ᶠ-negative x =
    same_value (x +ᶠ negative x) (whole (pos 0)) _ _ _ _
    (IsValue_sum x (negative x) _ _ _ _ (IsValue_self x) (IsValue_negative x _ _ (IsValue_self x))) (IsValue_whole (pos 0))
    (solve ring_ℤ (x.num ∷ pos x.den ∷ []) ((v0 ⊗ v1 ⊕ minus v0 ⊗ v1) ⊗ e1) (e0 ⊗ (v1 ⊗ v1)) refl)

pub *ᶠ_assoc : (x y z : Fraction) → (x *ᶠ y) *ᶠ z ≡ x *ᶠ (y *ᶠ z)
*ᶠ_assoc x y z =
    same_value (x *ᶠ y *ᶠ z) (x *ᶠ (y *ᶠ z)) _ _ _ _
    (IsValue_product (x *ᶠ y) z _ _ _ _ (IsValue_product x y _ _ _ _ (IsValue_self x) (IsValue_self y)) (IsValue_self z))
    (IsValue_product x (y *ᶠ z) _ _ _ _ (IsValue_self x) (IsValue_product y z _ _ _ _ (IsValue_self y) (IsValue_self z)))
    (solve ring_ℤ (x.num ∷ y.num ∷ z.num ∷ pos x.den ∷ pos y.den ∷ pos z.den ∷ [])
    (v0 ⊗ v1 ⊗ v2 ⊗ (v3 ⊗ (v4 ⊗ v5))) (v0 ⊗ (v1 ⊗ v2) ⊗ (v3 ⊗ v4 ⊗ v5)) refl)

pub *ᶠ_comm : (x y : Fraction) → x *ᶠ y ≡ y *ᶠ x
*ᶠ_comm x y =
    same_value (x *ᶠ y) (y *ᶠ x) _ _ _ _
    (IsValue_product x y _ _ _ _ (IsValue_self x) (IsValue_self y))
    (IsValue_product y x _ _ _ _ (IsValue_self y) (IsValue_self x))
    (solve ring_ℤ (x.num ∷ y.num ∷ pos x.den ∷ pos y.den ∷ []) (v0 ⊗ v1 ⊗ (v3 ⊗ v2)) (v1 ⊗ v0 ⊗ (v2 ⊗ v3)) refl)

pub *ᶠ-one : (x : Fraction) → x *ᶠ whole (pos 1) ≡ x
*ᶠ-one x =
    same_value (x *ᶠ whole (pos 1)) x _ _ _ _
    (IsValue_product x (whole (pos 1)) _ _ _ _ (IsValue_self x) (IsValue_whole (pos 1))) (IsValue_self x)
    (solve ring_ℤ (x.num ∷ pos x.den ∷ []) (v0 ⊗ e1 ⊗ v1) (v0 ⊗ (v1 ⊗ e1)) refl)

pub *ᶠ-+ᶠ : (x y z : Fraction) → x *ᶠ (y +ᶠ z) ≡ x *ᶠ y +ᶠ x *ᶠ z
*ᶠ-+ᶠ x y z =
    same_value (x *ᶠ (y +ᶠ z)) (x *ᶠ y +ᶠ x *ᶠ z) _ _ _ _
    (IsValue_product x (y +ᶠ z) _ _ _ _ (IsValue_self x) (IsValue_sum y z _ _ _ _ (IsValue_self y) (IsValue_self z)))
    (IsValue_sum (x *ᶠ y) (x *ᶠ z) _ _ _ _ (IsValue_product x y _ _ _ _ (IsValue_self x) (IsValue_self y)) (IsValue_product x z _ _ _ _ (IsValue_self x) (IsValue_self z)))
    (solve ring_ℤ (x.num ∷ y.num ∷ z.num ∷ pos x.den ∷ pos y.den ∷ pos z.den ∷ [])
    (v0 ⊗ (v1 ⊗ v5 ⊕ v2 ⊗ v4) ⊗ (v3 ⊗ v4 ⊗ (v3 ⊗ v5)))
    ((v0 ⊗ v1 ⊗ (v3 ⊗ v5) ⊕ v0 ⊗ v2 ⊗ (v3 ⊗ v4)) ⊗ (v3 ⊗ (v4 ⊗ v5))) refl)

-- the fractions as a ring
abbrev pub ring_F : Ring
ring_F = record {
  R = Fraction;
  nought = whole (pos 0);
  unit = whole (pos 1);
  add = λ x y. x +ᶠ y;
  mul = λ x y. x *ᶠ y;
  neg = negative;
  add_assoc = +ᶠ_assoc;
  add_comm = +ᶠ_comm;
  add-nought = +ᶠ-nought;
  add-neg = +ᶠ-negative;
  mul_assoc = *ᶠ_assoc;
  mul_comm = *ᶠ_comm;
  mul-unit = *ᶠ-one;
  mul-add = *ᶠ-+ᶠ;
}

-- ---- division
inverse_worth : (x : Fraction) (n : ℤ) → x.num ≡ n → ¬ (n ≡ pos 0) → x *ᶠ over_whole x.den n ≡ whole (pos 1)
inverse_worth x (pos zero) e h = absurd (h refl)
inverse_worth x (pos (suc n)) e h =
    same_value (x *ᶠ pos x.den over suc n) (whole (pos 1)) _ _ _ _
    (IsValue_product x (pos x.den over suc n) _ _ _ _ (IsValue_self x) (IsValue_over (pos x.den) (suc n) (omega arith))) (IsValue_whole (pos 1))
    (ap (λ t. t *ℤ pos x.den *ℤ pos 1) e ∙ solve ring_ℤ (pos (suc n) ∷ pos x.den ∷ []) (v0 ⊗ v1 ⊗ e1) (e1 ⊗ (v1 ⊗ v0)) refl)
inverse_worth x (negsuc n) e h =
    same_value (x *ᶠ neg_ℤ (pos x.den) over suc n) (whole (pos 1)) _ _ _ _
    (IsValue_product x (neg_ℤ (pos x.den) over suc n) _ _ _ _ (IsValue_self x) (IsValue_over (neg_ℤ (pos x.den)) (suc n) (omega arith))) (IsValue_whole (pos 1))
    (ap (λ t. t *ℤ neg_ℤ (pos x.den) *ℤ pos 1) e ∙ solve ring_ℤ (pos (suc n) ∷ pos x.den ∷ []) (minus v0 ⊗ minus v1 ⊗ e1) (e1 ⊗ (v1 ⊗ v0)) refl)

pub *ᶠ-inverse : (x : Fraction) → ¬ (x.num ≡ pos 0) → x *ᶠ inverse x ≡ whole (pos 1)
unfolding inverse
*ᶠ-inverse x h = inverse_worth x x.num refl h

-- ---- the order
-- the two sides of a comparison, in other terms
cross_turn : (x y : Fraction) (n m : ℤ) (d e : ℕ) → IsValue x n d → IsValue y m e → (x.num *ℤ pos y.den) *ℤ pos (d * e) ≡ (n *ℤ pos e) *ℤ pos (x.den * y.den)
cross_turn x y n m d e v w =
    solve ring_ℤ (x.num ∷ pos y.den ∷ pos d ∷ pos e ∷ []) (v0 ⊗ v1 ⊗ (v2 ⊗ v3)) (v0 ⊗ v2 ⊗ (v1 ⊗ v3)) refl
    ∙ ap (λ t. t *ℤ (pos y.den *ℤ pos e)) v.worth
    ∙ solve ring_ℤ (n ∷ pos x.den ∷ pos y.den ∷ pos e ∷ []) (v0 ⊗ v1 ⊗ (v2 ⊗ v3)) (v0 ⊗ v3 ⊗ (v1 ⊗ v2)) refl

swap_dens : (a : ℤ) (d e : ℕ) → a *ℤ pos (e * d) ≡ a *ℤ pos (d * e)
swap_dens a d e = solve ring_ℤ (a ∷ pos d ∷ pos e ∷ []) (v0 ⊗ (v2 ⊗ v1)) (v0 ⊗ (v1 ⊗ v2)) refl

cross_turn_right : (x y : Fraction) (n m : ℤ) (d e : ℕ) → IsValue x n d → IsValue y m e → (y.num *ℤ pos x.den) *ℤ pos (d * e) ≡ (m *ℤ pos d) *ℤ pos (x.den * y.den)
cross_turn_right x y n m d e v w = sym (swap_dens (y.num *ℤ pos x.den) d e) ∙ cross_turn y x m n e d w v ∙ swap_dens (m *ℤ pos d) x.den y.den

pub below_from : (x y : Fraction) (n m : ℤ) (d e : ℕ) → IsValue x n d → IsValue y m e → (n *ℤ pos e) <ℤ (m *ℤ pos d) → x <ᶠ y
below_from x y n m d e v w h = record {
  below =
      *ℤ-pos-lt_cancel (x.num *ℤ pos y.den) (y.num *ℤ pos x.den) (d * e)
      (subst (λ t. t) (sym (ap₂ (λ s t. s <ℤ t) (cross_turn x y n m d e v w) (cross_turn_right x y n m d e v w)))
      (*ℤ-pos-lt (n *ℤ pos e) (m *ℤ pos d) (x.den * y.den) (mul-pos (den_pos x) (den_pos y)) h));
}

pub below_to : (x y : Fraction) (n m : ℤ) (d e : ℕ) → IsValue x n d → IsValue y m e → x <ᶠ y → (n *ℤ pos e) <ℤ (m *ℤ pos d)
below_to x y n m d e v w h =
    *ℤ-pos-lt_cancel (n *ℤ pos e) (m *ℤ pos d) (x.den * y.den)
    (subst (λ t. t) (ap₂ (λ s t. s <ℤ t) (cross_turn x y n m d e v w) (cross_turn_right x y n m d e v w))
    (*ℤ-pos-lt (x.num *ℤ pos y.den) (y.num *ℤ pos x.den) (d * e) (mul-pos v.divides w.divides) h.below))

-- x is above 0
abbrev pub IsPositive : Fraction → Type 0
IsPositive x = whole (pos 0) <ᶠ x

pub positive_num : (x : Fraction) → IsPositive x → pos 0 <ℤ x.num
positive_num x h = subst (λ t. t) (ap₂ (λ s t. s <ℤ t) (solve ring_ℤ (pos x.den ∷ []) (e0 ⊗ v0) e0 refl) (solve ring_ℤ (x.num ∷ []) (v0 ⊗ e1) v0 refl)) (below_to (whole (pos 0)) x (pos 0) x.num 1 x.den (IsValue_whole (pos 0)) (IsValue_self x) h)

pub positive_value : (x : Fraction) (n : ℤ) (d : ℕ) → IsValue x n d → pos 0 <ℤ n → IsPositive x
positive_value x n d v h = below_from (whole (pos 0)) x (pos 0) n 1 d (IsValue_whole (pos 0)) v (subst (λ t. t) (sym (ap₂ (λ s t. s <ℤ t) (solve ring_ℤ (pos d ∷ []) (e0 ⊗ v0) e0 refl) (solve ring_ℤ (n ∷ []) (v0 ⊗ e1) v0 refl))) h)

pub positive_product_F : (x y : Fraction) → IsPositive x → IsPositive y → IsPositive (x *ᶠ y)
positive_product_F x y h k = positive_value (x *ᶠ y) _ _ (IsValue_product x y _ _ _ _ (IsValue_self x) (IsValue_self y)) (positive_product x.num y.num (positive_num x h) (positive_num y k))

pub positive_sum_F : (x y : Fraction) → IsPositive x → IsPositive y → IsPositive (x +ᶠ y)
positive_sum_F x y h k =
    positive_value (x +ᶠ y) _ _ (IsValue_sum x y _ _ _ _ (IsValue_self x) (IsValue_self y))
    (positive_sum (x.num *ℤ pos y.den) (y.num *ℤ pos x.den)
    (positive_product x.num (pos y.den) (positive_num x h) (den_positive y))
    (positive_product y.num (pos x.den) (positive_num y k) (den_positive x)))
  where
    den_positive : (z : Fraction) → pos 0 <ℤ pos z.den
    den_positive z = omega (arith, ints, den_pos z)

-- x is below y exactly where the difference is positive
pub difference_positive : (x y : Fraction) → x <ᶠ y → IsPositive (y -ᶠ x)
difference_positive x y h =
    positive_value (y +ᶠ negative x) _ _ (IsValue_sum y (negative x) _ _ _ _ (IsValue_self y) (IsValue_negative x _ _ (IsValue_self x)))
    (less_difference (x.num *ℤ pos y.den) (y.num *ℤ pos x.den) (neg_ℤ x.num *ℤ pos y.den) (solve ring_ℤ (x.num ∷ pos y.den ∷ []) (minus v0 ⊗ v1) (minus (v0 ⊗ v1)) refl) h.below)
  where
    less_difference : (a b c : ℤ) → c ≡ neg_ℤ a → a <ℤ b → pos 0 <ℤ (b +ℤ c)
    less_difference a b c e l = omega (arith, ints)

pub below_from_difference : (x y : Fraction) → IsPositive (y -ᶠ x) → x <ᶠ y
below_from_difference x y h =
    below_from x y _ _ _ _ (IsValue_self x) (IsValue_self y)
    (less_from (x.num *ℤ pos y.den) (y.num *ℤ pos x.den) (neg_ℤ x.num *ℤ pos y.den) (solve ring_ℤ (x.num ∷ pos y.den ∷ []) (minus v0 ⊗ v1) (minus (v0 ⊗ v1)) refl)
    (positive_num_of (y +ᶠ negative x) _ _ (IsValue_sum y (negative x) _ _ _ _ (IsValue_self y) (IsValue_negative x _ _ (IsValue_self x))) h))
  where
    less_from : (a b c : ℤ) → c ≡ neg_ℤ a → pos 0 <ℤ (b +ℤ c) → a <ℤ b
    less_from a b c e l = omega (arith, ints)

    positive_num_of : (z : Fraction) (n : ℤ) (d : ℕ) → IsValue z n d → IsPositive z → pos 0 <ℤ n
    positive_num_of z n d v p = subst (λ t. t) (ap₂ (λ s t. s <ℤ t) (solve ring_ℤ (pos d ∷ []) (e0 ⊗ v0) e0 refl) (solve ring_ℤ (n ∷ []) (v0 ⊗ e1) v0 refl)) (below_to (whole (pos 0)) z (pos 0) n 1 d (IsValue_whole (pos 0)) v p)

pub <ᶠ_irrefl : (x : Fraction) → x <ᶠ x → ⊥
<ᶠ_irrefl x h = omega (arith, ints, h.below)

pub trichotomy : (x y : Fraction) → (x <ᶠ y) ⊎ ((x ≡ y) ⊎ (y <ᶠ x))
trichotomy x y = go (cases_ℤ (x.num *ℤ pos y.den) (y.num *ℤ pos x.den))
  where
    go : ((x.num *ℤ pos y.den) <ℤ (y.num *ℤ pos x.den)) ⊎ ((x.num *ℤ pos y.den ≡ y.num *ℤ pos x.den) ⊎ ((y.num *ℤ pos x.den) <ℤ (x.num *ℤ pos y.den))) → (x <ᶠ y) ⊎ ((x ≡ y) ⊎ (y <ᶠ x))
    go (inl h) = inl (record { below = h })
    go (inr (inl e)) = inr (inl (same_if_cross x y e))
    go (inr (inr h)) = inr (inr (record { below = h }))

-- ---- what proofs use: a comparison follows from what the difference is
pub below_by : (x y p : Fraction) → IsPositive p → y -ᶠ x ≡ p → x <ᶠ y
below_by x y p h e = below_from_difference x y (subst IsPositive (sym e) h)

pub positive_by : (x p : Fraction) → IsPositive p → x ≡ p → IsPositive x
positive_by x p h e = subst IsPositive (sym e) h

pub <ᶠ_trans : (x y z : Fraction) → x <ᶠ y → y <ᶠ z → x <ᶠ z
<ᶠ_trans x y z h k =
    below_by x z ((z -ᶠ y) +ᶠ (y -ᶠ x)) (positive_sum_F (z -ᶠ y) (y -ᶠ x) (difference_positive y z k) (difference_positive x y h))
    (solve ring_F (x ∷ y ∷ z ∷ []) (v2 ⊖ v0) ((v2 ⊖ v1) ⊕ (v1 ⊖ v0)) refl)

pub one_positive : IsPositive (whole (pos 1))
one_positive = positive_value (whole (pos 1)) (pos 1) 1 (IsValue_whole (pos 1)) (omega (arith, ints))

pub positive_not_nought : (x : Fraction) → IsPositive x → ¬ (x ≡ whole (pos 0))
positive_not_nought x h e = <ᶠ_irrefl (whole (pos 0)) (subst IsPositive e h)

pub num_not_nought : (x : Fraction) → IsPositive x → ¬ (x.num ≡ pos 0)
num_not_nought x h e = omega (arith, ints, positive_num x h)

pub *ᶠ-inverse_pos : (x : Fraction) → IsPositive x → x *ᶠ inverse x ≡ whole (pos 1)
*ᶠ-inverse_pos x h = *ᶠ-inverse x (num_not_nought x h)

-- 1 / x is positive where x is: else x * (1 / x) would not be
pub inverse_positive : (x : Fraction) → IsPositive x → IsPositive (inverse x)
unfolding inverse
inverse_positive x h = go x.num refl
  where
    go : (n : ℤ) → x.num ≡ n → IsPositive (over_whole x.den n)
    go (pos zero) e = absurd (num_not_nought x h e)
    go (pos (suc n)) e = positive_value (pos x.den over suc n) (pos x.den) (suc n) (IsValue_over (pos x.den) (suc n) (omega arith)) (omega (arith, ints, den_pos x))
    go (negsuc n) e = absurd (omega (arith, ints, positive_num x h, e))

-- ---- at least 0
abbrev pub IsNonNegative : Fraction → Type 0
IsNonNegative x = (IsPositive x) ⊎ (x ≡ whole (pos 0))

pub non_negative_sum : (x y : Fraction) → IsNonNegative x → IsNonNegative y → IsNonNegative (x +ᶠ y)
non_negative_sum x y (inl h) (inl k) = inl (positive_sum_F x y h k)
non_negative_sum x y (inl h) (inr e) = inl (positive_by (x +ᶠ y) x h (ap (λ t. x +ᶠ t) e ∙ +ᶠ-nought x))
non_negative_sum x y (inr e) k = subst IsNonNegative (sym (ap (λ t. t +ᶠ y) e ∙ +ᶠ_comm (whole (pos 0)) y ∙ +ᶠ-nought y)) k

pub non_negative_product : (x y : Fraction) → IsNonNegative x → IsNonNegative y → IsNonNegative (x *ᶠ y)
non_negative_product x y (inl h) (inl k) = inl (positive_product_F x y h k)
non_negative_product x y (inl h) (inr e) = inr (ap (λ t. x *ᶠ t) e ∙ solve ring_F (x ∷ []) (v0 ⊗ e0) e0 refl)
non_negative_product x y (inr e) k = inr (ap (λ t. t *ᶠ y) e ∙ solve ring_F (y ∷ []) (e0 ⊗ v0) e0 refl)

-- x and - x are not both positive
pub not_both_positive : (x : Fraction) → IsPositive x → IsNonNegative (negative x) → ⊥
not_both_positive x h (inl k) = <ᶠ_irrefl (whole (pos 0)) (positive_by (whole (pos 0)) (x +ᶠ negative x) (positive_sum_F x (negative x) h k) (sym (+ᶠ-negative x)))
not_both_positive x h (inr e) = positive_not_nought x h (solve ring_F (x ∷ []) v0 (minus (minus v0)) refl ∙ ap negative e ∙ solve ring_F [] (minus e0) e0 refl)

-- each fraction is positive, or its negative is at least 0
pub sign_of : (x : Fraction) → (IsPositive x) ⊎ (IsNonNegative (negative x))
sign_of x = go (trichotomy (whole (pos 0)) x)
  where
    go : (whole (pos 0) <ᶠ x) ⊎ ((whole (pos 0) ≡ x) ⊎ (x <ᶠ whole (pos 0))) → (IsPositive x) ⊎ (IsNonNegative (negative x))
    go (inl h) = inl h
    go (inr (inl e)) = inr (inr (ap negative (sym e) ∙ solve ring_F [] (minus e0) e0 refl))
    go (inr (inr h)) = inr (inl (positive_by (negative x) (whole (pos 0) -ᶠ x) (difference_positive x (whole (pos 0)) h) (solve ring_F (x ∷ []) (minus v0) (e0 ⊖ v0) refl)))

-- a factor that is positive cancels
pub cancel_F : (x y z : Fraction) → IsPositive x → x *ᶠ y ≡ x *ᶠ z → y ≡ z
cancel_F x y z h e =
    solve ring_F (y ∷ []) v0 (e1 ⊗ v0) refl
    ∙ ap (λ t. t *ᶠ y) (sym (*ᶠ-inverse_pos x h))
    ∙ solve ring_F (x ∷ inverse x ∷ y ∷ []) (v0 ⊗ v1 ⊗ v2) (v1 ⊗ (v0 ⊗ v2)) refl
    ∙ ap (λ t. inverse x *ᶠ t) e
    ∙ solve ring_F (x ∷ inverse x ∷ z ∷ []) (v1 ⊗ (v0 ⊗ v2)) (v0 ⊗ v1 ⊗ v2) refl
    ∙ ap (λ t. t *ᶠ z) (*ᶠ-inverse_pos x h)
    ∙ solve ring_F (z ∷ []) (e1 ⊗ v0) v0 refl
