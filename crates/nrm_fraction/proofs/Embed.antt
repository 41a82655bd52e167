-- Whole numbers as fractions: sums, products, differences and order.
use Rattle.std.proofs.Common.{◌≡◌, ℕ, zero, suc, ◌+◌, ◌*◌, ◌/◌, ◌<◌, ◌≤◌, inl, inr, ℤ, pos, negsuc, ◌*ℤ◌, ◌<ℤ◌, nat_abs, arith, refl, sym, ap, ◌∙◌, List, [], ◌∷◌, length, get_or}
use Rattle.std.proofs.lemmas.Int.{ints}
use Rattle.std.proofs.lemmas.List.{get_or-map, length-map}
use Prim.Native.Nat.{◌∣◌}
use native.Mathlib.Nat.{div-mul_cancel, one-dvd}
use Rattle.std.proofs.lemmas.Nat.Gcd.{dvd_trans, dvd_antisymm}
use Rattle.nrm_number.proofs.Integers.{ring_ℤ, *ℤ_cancel}
use Rattle.nrm_number.proofs.GcdLaws.{dvd-lcm_left, dvd-lcm_right}
use Rattle.nrm_number.proofs.Ring.{solve, ◌⊖◌, v0, v1, v2}
use Rattle.nrm_number.proofs.Ring.Expr.{◌⊕◌, ◌⊗◌, e0, e1}
use Rattle.nrm_fraction.specs.Fraction.{Fraction, ◌+ᶠ◌, ◌*ᶠ◌, ◌-ᶠ◌, whole}
use Rattle.nrm_fraction.specs.Large.{common, numerators, over_common}
use Rattle.nrm_fraction.proofs.Values.{IsValue_self, IsValue_sum, IsValue_product, same_value, den_pos}
use Rattle.nrm_fraction.proofs.Field.{ring_F, IsValue_whole, IsPositive, IsNonNegative, positive_value, positive_num, below_to, below_from_difference}
use Rattle.nrm_fraction.proofs.Lowest.{den-dvd}
use Rattle.nrm_fraction.proofs.Sums.{sum_to}
use Rattle.nrm_number.proofs.Totals.{sum_below}

-- a whole number that isn't negative, as a fraction
abbrev pub W : ℕ → Fraction
W n = whole (pos n)

pub W-plus : (a b : ℕ) → W (a + b) ≡ W a +ᶠ W b
W-plus a b =
    same_value (W (a + b)) (W a +ᶠ W b) _ _ _ _ (IsValue_whole (pos (a + b))) (IsValue_sum (W a) (W b) _ _ _ _ (IsValue_whole (pos a)) (IsValue_whole (pos b)))
    (ap pos (omega arith))

pub W-times : (a b : ℕ) → W (a * b) ≡ W a *ᶠ W b
W-times a b =
    same_value (W (a * b)) (W a *ᶠ W b) _ _ _ _ (IsValue_whole (pos (a * b))) (IsValue_product (W a) (W b) _ _ _ _ (IsValue_whole (pos a)) (IsValue_whole (pos b)))
    (ap pos (omega arith))

pub W-sign : (n : ℕ) → IsNonNegative (W n)
W-sign zero = inr refl
W-sign (suc n) = inl (positive_value (W (suc n)) (pos (suc n)) 1 (IsValue_whole (pos (suc n))) (omega (arith, ints)))

pub W-below : (a b : ℕ) → IsPositive (W b -ᶠ W a) → a < b
W-below a b h = omega (arith, ints, below_to (W a) (W b) (pos a) (pos b) 1 1 (IsValue_whole (pos a)) (IsValue_whole (pos b)) (below_from_difference (W a) (W b) h))

pub W-same : (a b : ℕ) → W a ≡ W b → a ≡ b
W-same a b e = pos_same a b (*ℤ_cancel (pos a) (pos b) (W a).den (den_pos (W a)) (sym (IsValue_whole (pos a)).worth ∙ (ap (λ x. x.num *ℤ pos 1) e ∙ (IsValue_whole (pos b)).worth ∙ ap (λ x. pos b *ℤ pos x.den) (sym e))))
  where
    pos_same : (a b : ℕ) → pos a ≡ pos b → a ≡ b
    pos_same a b e = ap nat_abs e

pub W-le : (a b : ℕ) → IsNonNegative (W b -ᶠ W a) → a ≤ b
W-le a b (inl h) = omega (arith, W-below a b h)
W-le a b (inr e) = omega (arith, W-same b a (solve ring_F (W b ∷ W a ∷ []) v0 ((v0 ⊖ v1) ⊕ v1) refl ∙ ap (λ t. t +ᶠ W a) e ∙ solve ring_F (W a ∷ []) (e0 ⊕ v0) v0 refl))

pub W-sum : (n : ℕ) (f : ℕ → ℕ) → W (sum_below n f) ≡ sum_to n (λ k. W (f k))
W-sum zero f = refl
W-sum (suc n) f = W-plus (sum_below n f) (f n) ∙ ap (λ t. t +ᶠ W (f n)) (W-sum n f)

-- a fraction that isn't negative, times a multiple of its denominator, is its whole number over it
pub times_common : (x : Fraction) (m : ℕ) → IsNonNegative x → x.den ∣ m → W (nat_abs (x.num *ℤ pos (m / x.den))) ≡ W m *ᶠ x
times_common x m s d =
    ap whole (pos-abs (x.num *ℤ pos (m / x.den)) (product_sign x.num (m / x.den) (num_sign s)))
    ∙ same_value (whole (x.num *ℤ pos (m / x.den))) (W m *ᶠ x) _ _ _ _ (IsValue_whole (x.num *ℤ pos (m / x.den))) (IsValue_product (W m) x _ _ _ _ (IsValue_whole (pos m)) (IsValue_self x))
    (solve ring_ℤ (x.num ∷ pos (m / x.den) ∷ pos x.den ∷ []) (v0 ⊗ v1 ⊗ (e1 ⊗ v2)) (v0 ⊗ (v1 ⊗ v2)) refl
    ∙ ap (λ t. x.num *ℤ pos t) (div-mul_cancel x.den d)
    ∙ solve ring_ℤ (x.num ∷ pos m ∷ []) (v0 ⊗ v1) (v1 ⊗ v0 ⊗ e1) refl)
  where
    no_part : 0 * (whole (pos 0)).den ≡ 0 * 1
    no_part = omega arith

    num_sign : IsNonNegative x → (n : ℕ) × (x.num ≡ pos n)
    num_sign (inl p) = go x.num (positive_num x p)
      where
        go : (z : ℤ) → pos 0 <ℤ z → (n : ℕ) × (z ≡ pos n)
        go (pos n) h = (n, refl)
        go (negsuc n) h = absurd (omega (arith, ints))
    num_sign (inr e) = (0, *ℤ_cancel x.num (pos 0) 1 (omega arith) (ap (λ y. y.num *ℤ pos 1) e ∙ (IsValue_whole (pos 0)).worth ∙ ap pos no_part))

    product_sign : (z : ℤ) (k : ℕ) → (n : ℕ) × (z ≡ pos n) → (n : ℕ) × (z *ℤ pos k ≡ pos n)
    product_sign z k w = (w.0 * k, ap (λ y. y *ℤ pos k) w.1)

    pos-abs : (z : ℤ) → (n : ℕ) × (z ≡ pos n) → pos (nat_abs z) ≡ z
    pos-abs z w = ap (λ y. pos (nat_abs y)) w.1 ∙ sym w.1

-- each denominator divides the common one
pub den-dvd-common : (xs : List Fraction) (k : ℕ) → k < length xs → (d : Fraction) → (get_or xs k d).den ∣ common xs
den-dvd-common [] k l d = absurd (omega arith)
den-dvd-common (x ∷ xs) zero l d = dvd-lcm_left x.den (common xs)
den-dvd-common (x ∷ xs) (suc k) l d = dvd_trans ((get_or xs k d).den) (den-dvd-common xs k (omega arith) d) (dvd-lcm_right x.den (common xs))

pub over_common_at : (xs : List Fraction) (k : ℕ) → k < length xs → IsNonNegative (get_or xs k (whole (pos 0))) → W (get_or (over_common xs) k 0) ≡ W (common xs) *ᶠ get_or xs k (whole (pos 0))
over_common_at xs k l s =
    ap W (get_or-map (λ z. nat_abs z) (numerators (common xs) xs) k (pos 0) 0 (omega (arith, length-map xs (λ x. x.num *ℤ pos (common xs / x.den))))
    ∙ ap nat_abs (get_or-map (λ x. x.num *ℤ pos (common xs / x.den)) xs k (whole (pos 0)) (pos 0) l))
    ∙ times_common (get_or xs k (whole (pos 0))) (common xs) s (den-dvd-common xs k l (whole (pos 0)))

pub length-over_common : (xs : List Fraction) → length (over_common xs) ≡ length xs
length-over_common xs = length-map (numerators (common xs) xs) (λ z. nat_abs z) ∙ length-map xs (λ x. x.num *ℤ pos (common xs / x.den))

pub W-positive : (n : ℕ) → 1 ≤ n → IsPositive (W n)
W-positive zero h = absurd (omega arith)
W-positive (suc n) h = positive_value (W (suc n)) (pos (suc n)) 1 (IsValue_whole (pos (suc n))) (omega (arith, ints))

-- a whole number over 1 is itself over 1
pub W-den : (n : ℕ) → (W n).den ≡ 1
unfolding whole
W-den n = dvd_antisymm (den-dvd (pos n) 1 (omega arith)) (one-dvd (W n).den)

pub W-num : (n : ℕ) → nat_abs (W n).num ≡ n
W-num n = ap nat_abs (*ℤ_cancel (W n).num (pos n) 1 (omega arith) ((IsValue_whole (pos n)).worth ∙ ap (λ d. pos n *ℤ pos d) (W-den n)))
