-- The ring of the whole numbers, and what is needed of their order.
use Rattle.std.proofs.Common.{◌≡◌, ℕ, zero, suc, ◌+◌, ◌*◌, ◌<◌, ℤ, pos, negsuc, ◌+ℤ◌, ◌-ℤ◌, ◌*ℤ◌, neg_ℤ, ◌<ℤ◌, arith, refl, ap, ◌⊎◌, inl, inr, [], ◌∷◌}
use Rattle.std.proofs.lemmas.Int.{ints, by_lt_z}
use borrow.Author.Differences.{up, down, same_in, below_in, lt_out, sum_is_lem, product_is}
use native.Mathlib.Nat.{eq_of_mul-eq-mul_right, mul-lt-mul_of_pos_right, lt_of_mul-lt-mul_right}
use lib.IntN.{+ℤ_assoc, +ℤ_comm, +ℤ_idr, +ℤ_invr, *ℤ_comm}
use Rattle.nrm_number.proofs.Ring.{Ring, solve}
use Rattle.nrm_number.proofs.Ring.Expr.{var, ◌⊕◌, ◌⊗◌, minus}

up-product : (a b : ℤ) → up (a *ℤ b) ≡ up a * up b + down a * down b
up-product a b = (product_is a b).0

down-product : (a b : ℤ) → down (a *ℤ b) ≡ up a * down b + down a * up b
down-product a b = (product_is a b).1

pub *ℤ_assoc : (a b c : ℤ) → (a *ℤ b) *ℤ c ≡ a *ℤ (b *ℤ c)
*ℤ_assoc a b c = same_in (a *ℤ b *ℤ c) (a *ℤ (b *ℤ c)) (simp (up-product, down-product) (omega arith))

pub *ℤ-+ℤ : (a b c : ℤ) → a *ℤ (b +ℤ c) ≡ a *ℤ b +ℤ a *ℤ c
*ℤ-+ℤ a b c =
    same_in (a *ℤ (b +ℤ c)) (a *ℤ b +ℤ a *ℤ c)
    (simp (up-product, down-product) (omega (arith, sum_is_lem (a *ℤ b) (a *ℤ c), up-product a b, down-product a b, up-product a c, down-product a c, ap (λ t. up a * t) (sum_is_lem b c), ap (λ t. down a * t) (sum_is_lem b c))))

pub nought-*ℤ : (a : ℤ) → pos 0 *ℤ a ≡ pos 0
nought-*ℤ (pos n) = ap pos (omega arith)
nought-*ℤ (negsuc n) = let none : 0 * suc n ≡ 0 = omega arith in ap (λ m. neg_ℤ (pos m)) none

pub *ℤ-unit : (a : ℤ) → a *ℤ pos 1 ≡ a
*ℤ-unit a = same_in (a *ℤ pos 1) a (omega (arith, up-product a (pos 1), down-product a (pos 1)))

-- the whole numbers as a ring
abbrev pub ring_ℤ : Ring
ring_ℤ = record {
  R = ℤ;
  nought = pos 0;
  unit = pos 1;
  add = λ a b. a +ℤ b;
  mul = λ a b. a *ℤ b;
  neg = neg_ℤ;
  add_assoc = +ℤ_assoc;
  add_comm = +ℤ_comm;
  add-nought = +ℤ_idr;
  add-neg = +ℤ_invr;
  mul_assoc = *ℤ_assoc;
  mul_comm = *ℤ_comm;
  mul-unit = *ℤ-unit;
  mul-add = *ℤ-+ℤ;
}

-- an equation that `solve` decides
example : (a b c d : ℤ) → (a +ℤ b) *ℤ (c -ℤ d) ≡ a *ℤ c -ℤ d *ℤ b +ℤ (b *ℤ c -ℤ a *ℤ d)
example a b c d = solve ring_ℤ (a ∷ b ∷ c ∷ d ∷ []) ((var 0 ⊕ var 1) ⊗ (var 2 ⊕ minus (var 3))) (var 0 ⊗ var 2 ⊕ minus (var 3 ⊗ var 1) ⊕ (var 1 ⊗ var 2 ⊕ minus (var 0 ⊗ var 3))) refl

-- a positive factor is cancelled
pub *ℤ_cancel : (a b : ℤ) (k : ℕ) → 0 < k → a *ℤ pos k ≡ b *ℤ pos k → a ≡ b
*ℤ_cancel a b k h e =
    same_in a b (eq_of_mul-eq-mul_right k h (up a + down b) (up b + down a)
    (omega (arith, up-product a (pos k), down-product a (pos k), up-product b (pos k), down-product b (pos k), ap up e, ap down e)))

pub *ℤ-pos-lt : (a b : ℤ) (k : ℕ) → 0 < k → a <ℤ b → (a *ℤ pos k) <ℤ (b *ℤ pos k)
*ℤ-pos-lt a b k h l =
    below_in (a *ℤ pos k) (b *ℤ pos k)
    (omega (arith, up-product a (pos k), down-product a (pos k), up-product b (pos k), down-product b (pos k), mul-lt-mul_of_pos_right (lt_out a b l) h))

pub *ℤ-pos-lt_cancel : (a b : ℤ) (k : ℕ) → (a *ℤ pos k) <ℤ (b *ℤ pos k) → a <ℤ b
*ℤ-pos-lt_cancel a b k l =
    below_in a b (lt_of_mul-lt-mul_right k (scaled (lt_out (a *ℤ pos k) (b *ℤ pos k) l)))
  where
    scaled : up (a *ℤ pos k) + down (b *ℤ pos k) < up (b *ℤ pos k) + down (a *ℤ pos k) → (up a + down b) * k < (up b + down a) * k
    scaled g = omega (arith, up-product a (pos k), down-product a (pos k), up-product b (pos k), down-product b (pos k))

pub positive_sum : (a b : ℤ) → pos 0 <ℤ a → pos 0 <ℤ b → pos 0 <ℤ (a +ℤ b)
positive_sum a b g h = omega (arith, ints)

pub positive_product : (a b : ℤ) → pos 0 <ℤ a → pos 0 <ℤ b → pos 0 <ℤ (a *ℤ b)
positive_product (pos (suc a)) (pos (suc b)) g h = omega (arith, ints)
positive_product (pos (suc a)) (pos zero) g h = absurd (omega (arith, ints))
positive_product (pos (suc a)) (negsuc b) g h = absurd (omega (arith, ints))
positive_product (pos zero) b g h = absurd (omega (arith, ints))
positive_product (negsuc a) b g h = absurd (omega (arith, ints))

pub cases_ℤ : (a b : ℤ) → (a <ℤ b) ⊎ ((a ≡ b) ⊎ (b <ℤ a))
cases_ℤ a b = by_lt_z a b (λ h. inl h) (λ h. by_lt_z b a (λ k. inr (inr k)) (λ k. inr (inl (omega (arith, ints)))))
