-- What the code's numbers are at 64 and at 128 bits.
use Rattle.std.proofs.Common.{sym, to_z-of_z, ◌≡◌, ℕ, ◌^◌, ◌<◌, ℤ, pos, negsuc, ◌-ℤ◌, ◌*ℤ◌, subst, ◌<ℤ◌, nat_abs, arith, ap, ◌∙◌}
use Rattle.std.proofs.lemmas.Int.{ints, to_z_pos, unsigned_abs-mul}
use Rattle.std.proofs.lemmas.Nat.{mul-lt}
use mir.Syntax.{w64, w128}
use mir.Val.{to_z, of_z, SFits}
use Rattle.nrm_fraction.specs.Large.{size_limit, IsSmall}
use Rattle.nrm_fraction.proofs.Sizes.{small_same}

-- a difference of two products, as the code has it at 128 bits
pub difference_is : (p q : ℤ) → nat_abs p < 2 ^ 96 → nat_abs q < 2 ^ 96 → to_z w128 (of_z w128 (to_z w128 (of_z w128 p) -ℤ to_z w128 (of_z w128 q))) ≡ p -ℤ q
difference_is p q h k = omega (arith, ints)

pub difference_fits : (p q : ℤ) → nat_abs p < 2 ^ 96 → nat_abs q < 2 ^ 96 → SFits w128 (to_z w128 (of_z w128 p) -ℤ to_z w128 (of_z w128 q))
difference_fits p q h k = omega (arith, ints)

pub difference_bound : (p q : ℤ) → nat_abs p < 2 ^ 96 → nat_abs q < 2 ^ 96 → nat_abs (p -ℤ q) < 2 ^ 97
difference_bound p q h k = omega (arith, ints)

-- and a product
wide_same : (p : ℤ) → nat_abs p < 2 ^ 96 → to_z w128 (of_z w128 p) ≡ p
wide_same p h = omega (arith, ints)

product_bound : (x y : ℤ) → IsSmall x → IsSmall y → nat_abs (x *ℤ y) < 2 ^ 96
product_bound x y h k = subst (λ t. t < 2 ^ 96) (sym (unsigned_abs-mul x y)) (mul-lt (nat_abs x) (nat_abs y) size_limit size_limit h k)

pub product_small : (x y : ℤ) → IsSmall x → IsSmall y → nat_abs (to_z w128 (of_z w128 (to_z w128 (of_z w128 (to_z w64 (of_z w64 x))) *ℤ to_z w128 (of_z w128 (to_z w64 (of_z w64 y)))))) < 2 ^ 96
product_small x y h k =
    subst (λ z. nat_abs z < 2 ^ 96) (sym ((λ i. to_z w128 (of_z w128 (number x h i *ℤ number y k i))) ∙ wide_same (x *ℤ y) (product_bound x y h k))) (product_bound x y h k)
  where
    number : (n : ℤ) → IsSmall n → to_z w128 (of_z w128 (to_z w64 (of_z w64 n))) ≡ n
    number n l = ap (λ z. to_z w128 (of_z w128 z)) (small_same n l) ∙ wide_same n (omega arith)

pub one_from_bits : (g : ℤ) → pos 0 <ℤ g → of_z w64 g ≡ 1 → nat_abs g ≡ 1
one_from_bits (pos n) h e = e
one_from_bits (negsuc n) h e = absurd (omega (arith, ints))

pub cast_small : (g : ℕ) → g < 2 ^ 96 → to_z w128 g ≡ pos g
cast_small g h = to_z_pos w128 g (omega arith)

pub zero_from_bits : (n : ℤ) → SFits w64 n → of_z w64 n ≡ 0 → n ≡ pos 0
zero_from_bits n f e = sym (to_z-of_z f) ∙ ap (to_z w64) e

pub wide_zero_from_bits : (n : ℤ) → SFits w128 n → of_z w128 n ≡ 0 → n ≡ pos 0
wide_zero_from_bits n f e = sym (to_z-of_z f) ∙ ap (to_z w128) e
