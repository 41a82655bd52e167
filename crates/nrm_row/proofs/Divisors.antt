-- The greatest common divisor of a denominator and numbers, and these divided by it.
use Rattle.std.proofs.Common.{length, get_or, ◌+◌, ◌-◌, ◌≡◌, ℕ, zero, suc, ◌*◌, ◌/◌, ◌<◌, ◌≤◌, ◌⊎◌, inl, inr, ℤ, pos, negsuc, ◌*ℤ◌, neg_ℤ, ◌<ℤ◌, nat_abs, arith, refl, sym, ap, ap₂, ◌∙◌, subst, List, [], ◌∷◌, map, drop}
use Prim.Native.Nat.{◌∣◌}
use Rattle.std.proofs.lemmas.List.{drop_more}
use Rattle.std.proofs.lemmas.Int.{ints}
use Rattle.std.specs.Int.RustNames.{int_div}
use native.Mathlib.Nat.{div-mul_cancel, eq_of_mul-eq-mul_right, div-one}
use Rattle.nrm_number.specs.Gcd.{gcd, shrink}
use Rattle.nrm_number.proofs.GcdLaws.{gcd-scaled, nat_abs-shrink}
use Rattle.nrm_number.proofs.Integers.{ring_ℤ}
use Rattle.nrm_number.proofs.Ring.{solve, v0, v1}
use Rattle.nrm_number.proofs.Ring.Expr.{◌⊗◌, minus}
use Rattle.nrm_fraction.specs.Fraction.{◌over◌}
use Rattle.nrm_fraction.specs.Large.{fractions, gcd_all}
use Rattle.nrm_fraction.proofs.Values.{IsValue_over, same_value, shrink_worth}
use Rattle.nrm_row.specs.Inner.Crossed.{shrunk}
use Rattle.nrm_fraction.proofs.CommonDivisors.{gcd_all_pos, gcd_all-dvd, DividesAll, gcd_all-divides, gcd_one, gcd_nought}

pub nought_more : (d g : ℕ) (ns : List ℤ) (i : ℕ) → 0 < i → i ≤ length ns → g ≡ gcd_all d (drop i ns) → get_or ns (i - 1) (pos 0) ≡ pos 0 → g ≡ gcd_all d (drop (i - 1) ns)
nought_more d g ns i h k p z =
    sym (gcd_nought g) ∙ ap₂ (λ n m. gcd (nat_abs n) m) (sym z) (p ∙ ap (λ j. gcd_all d (drop j ns)) back) ∙ ap (gcd_all d) (sym (drop_more ns (i - 1) (pos 0) (omega arith)))
  where
    back : i ≡ i - 1 + 1
    back = omega arith

-- a common divisor 1 stays 1
one_stays : (d : ℕ) (ns : List ℤ) (i : ℕ) → gcd_all d (drop i ns) ≡ 1 → gcd_all d ns ≡ 1
one_stays d ns zero e = e
one_stays d [] (suc i) e = e
one_stays d (n ∷ ns) (suc i) e = ap (gcd (nat_abs n)) (one_stays d ns i e) ∙ gcd_one (nat_abs n)

pub divisor_done : (d g : ℕ) (ns : List ℤ) (i : ℕ) → g ≡ gcd_all d (drop i ns) → (i ≡ 0) ⊎ (g ≡ 1) → g ≡ gcd_all d ns
divisor_done d g ns i e (inl z) = e ∙ ap (λ j. gcd_all d (drop j ns)) z
divisor_done d g ns i e (inr o) = o ∙ sym (one_stays d ns i (sym e ∙ o))

-- ---- numbers divided by what divides them
pub quotient_is : (t g : ℤ) → pos 0 <ℤ g → int_div t g ≡ shrink t (nat_abs g)
quotient_is (pos t) (pos g) h = refl
quotient_is (negsuc t) (pos g) h = refl
quotient_is t (negsuc g) h = absurd (omega (arith, ints))

pub shrink_one : (n : ℤ) → shrink n 1 ≡ n
shrink_one (pos n) = ap pos (div-one n)
shrink_one (negsuc n) = ap (λ t. neg_ℤ (pos t)) (div-one (suc n))

pub shrunk_one : (ns : List ℤ) → shrunk 1 ns ≡ ns
shrunk_one [] = refl
shrunk_one (n ∷ ns) = ap₂ (λ x y. x ∷ y) (shrink_one n) (shrunk_one ns)

-- and multiplied again
pub shrink_back : (n : ℤ) (g : ℕ) → g ∣ nat_abs n → shrink n g *ℤ pos g ≡ n
shrink_back (pos n) g h = ap pos (div-mul_cancel g h)
shrink_back (negsuc n) g h = solve ring_ℤ (pos (suc n / g) ∷ pos g ∷ []) (minus v0 ⊗ v1) (minus (v0 ⊗ v1)) refl ∙ ap (λ t. neg_ℤ (pos t)) (div-mul_cancel g h)

-- numbers and denominator divided alike are the same fractions
pub shrunk_same : (d g : ℕ) (ns : List ℤ) → 0 < d → 0 < d / g → d / g * g ≡ d → 0 < g → DividesAll g ns → fractions (d / g) (shrunk g ns) ≡ fractions d ns
shrunk_same d g [] h k e p q = refl
shrunk_same d g (n ∷ ns) h k e p q = ap₂ (λ s t. s ∷ t) one (shrunk_same d g ns h k e p q.1)
  where
    one : shrink n g over (d / g) ≡ n over d
    one = same_value (shrink n g over (d / g)) (n over d) _ _ _ _ (IsValue_over (shrink n g) (d / g) k) (IsValue_over n d h) (shrink_worth n g d (div-mul_cancel g q.0) e)

-- divided by all that they have in common, 1 alone divides them
pub shrunk_times : (d g : ℕ) (ns : List ℤ) → 0 < g → d / g * g ≡ d → DividesAll g ns → gcd_all (d / g) (shrunk g ns) * g ≡ gcd_all d ns
shrunk_times d g [] h e q = e
shrunk_times d g (n ∷ ns) h e q =
    sym (gcd-scaled (nat_abs (shrink n g)) (gcd_all (d / g) (map (λ n. shrink n g) ns)) g h)
    ∙ ap₂ gcd (ap (λ t. t * g) (nat_abs-shrink n g) ∙ div-mul_cancel g q.0) (shrunk_times d g ns h e q.1)

pub shrunk_lowest : (d : ℕ) (ns : List ℤ) → 0 < d → gcd_all (d / gcd_all d ns) (shrunk (gcd_all d ns) ns) ≡ 1
shrunk_lowest d ns h =
    eq_of_mul-eq-mul_right (gcd_all d ns) (gcd_all_pos d ns h) (gcd_all (d / gcd_all d ns) (shrunk (gcd_all d ns) ns)) 1
    (shrunk_times d (gcd_all d ns) ns (gcd_all_pos d ns h) (div-mul_cancel (gcd_all d ns) (gcd_all-dvd d ns)) (gcd_all-divides d ns) ∙ omega arith)

pub reduced_below : (D g : ℕ) → 0 < D → D / g * g ≡ D → 0 < D / g
reduced_below D g h e = pos_of_mul (D / g) g (subst (λ t. 0 < t) (sym e) h)
  where
    pos_of_mul : (x y : ℕ) → 0 < x * y → 0 < x
    pos_of_mul zero y h = absurd (omega arith)
    pos_of_mul (suc x) y h = omega arith
