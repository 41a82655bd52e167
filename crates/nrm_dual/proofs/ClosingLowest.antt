-- A row of fractions over its least common denominator is in lowest terms, so the certificate of a closing is.
use Rattle.std.proofs.Common.{◌≡◌, ℕ, zero, suc, ◌*◌, ◌/◌, ◌<◌, ◌≤◌, ℤ, pos, ◌*ℤ◌, nat_abs, arith, refl, sym, ap, ◌∙◌, subst, List, [], ◌∷◌}
use Rattle.std.proofs.Common.{map, length}
use Prim.Native.Nat.{◌∣◌}
use Rattle.std.proofs.lemmas.Nat.Gcd.{dvd_refl, dvd_trans, le_of_dvd}
use Rattle.std.proofs.lemmas.Int.{unsigned_abs-mul}
use Rattle.std.proofs.lemmas.Bool.{ltb-true}
use native.Mathlib.Nat.{one-dvd, div-mul_cancel, mul-div_cancel', mul-dvd-mul_left, dvd_of_mul-dvd-mul_right, pos_of_dvd_of_pos}
use Rattle.nrm_number.proofs.GcdLaws.{gcd-dvd_left, gcd-dvd_right, divides_other, dvd-lcm_left, dvd-lcm_right, lcm-dvd, lowest_out}
use Rattle.nrm_fraction.specs.Fraction.{Fraction}
use Rattle.nrm_fraction.specs.Large.{common, numerators, over_common, gcd_all, size_limit}
use Rattle.nrm_fraction.proofs.Lowest.{common_pos}
use Rattle.nrm_model.specs.Network.{NetworkValue}
use Rattle.nrm_lp.specs.Program.{ProgramValue}
use Rattle.nrm_lp.specs.Tableau.{Tableau}
use Rattle.nrm_lp.specs.Closing.{certificate, product_values, leg_prices}
use Rattle.nrm_lp.specs.Certified.{Certifies}
use Rattle.nrm_lp.proofs.Certify.{certifies}
use Rattle.nrm_lp.specs.Shape.{HasShape}
use Rattle.nrm_dual.specs.ReadBack.{IsLowest, WrittenIsRead, ClosingsAreRead}
use Rattle.nrm_fraction.proofs.CommonDivisors.{gcd_all-dvd}

-- what divides m and the numerator of x over m leaves, of m, a multiple of the denominator
den-dvd-rest : (x : Fraction) (g r : ℕ) → 0 < g → x.den ∣ r * g → g ∣ nat_abs (x.num *ℤ pos (r * g / x.den)) → x.den ∣ r
den-dvd-rest x g r some whole divides =
    divides_other (nat_abs x.num) x.den r (lowest_out x.num x.den x.is_lowest).1
    (dvd_of_mul-dvd-mul_right x.den some (subst (λ t. x.den * g ∣ t) sizes (mul-dvd-mul_left g x.den divides)))
  where
    turn : (a b c : ℕ) → a * (b * c) ≡ b * (a * c)
    turn a b c = omega arith

    again : (a r g : ℕ) → a * (r * g) ≡ a * r * g
    again a r g = omega arith

    sizes : x.den * nat_abs (x.num *ℤ pos (r * g / x.den)) ≡ nat_abs x.num * r * g
    sizes =
        ap (λ t. x.den * t) (unsigned_abs-mul x.num (pos (r * g / x.den)))
        ∙ turn x.den (nat_abs x.num) (r * g / x.den)
        ∙ ap (λ t. nat_abs x.num * t) (mul-div_cancel' x.den whole)
        ∙ again (nat_abs x.num) r g

-- numbers without their signs, as whole numbers again
abbrev unsigned : List ℤ → List ℤ
unsigned ns = map (λ n. pos n) (map (λ n. nat_abs n) ns)

common-dvd-rest : (xs : List Fraction) (g r : ℕ) → 0 < g → common xs ∣ r * g → g ∣ gcd_all (r * g) (unsigned (numerators (r * g) xs))
    → common xs ∣ r
common-dvd-rest [] g r some whole divides = one-dvd r
common-dvd-rest (x ∷ xs) g r some whole divides =
    let size : ℕ = nat_abs (x.num *ℤ pos (r * g / x.den)) in
    let rest : ℕ = gcd_all (r * g) (unsigned (numerators (r * g) xs)) in
    lcm-dvd x.den (common xs) r (common_pos xs)
    (den-dvd-rest x g r some (dvd_trans x.den (dvd-lcm_left x.den (common xs)) whole) (dvd_trans g divides (gcd-dvd_left size rest)))
    (common-dvd-rest xs g r some (dvd_trans (common xs) (dvd-lcm_right x.den (common xs)) whole) (dvd_trans g divides (gcd-dvd_right size rest)))

-- r * g divides r where r isn't 0: g is 1
is_one : (g r : ℕ) → 0 < r → 0 < g → r * g ≤ r → g ≡ 1
is_one zero r some more l = absurd (omega arith)
is_one (suc zero) r some more l = refl
is_one (suc (suc g)) r some more l = absurd (omega arith)

pub over_common_lowest : (xs : List Fraction) → gcd_all (common xs) (map (λ n. pos n) (over_common xs)) ≡ 1
over_common_lowest xs = is_one g r some_r some (le_of_dvd some_r (subst (λ t. t ∣ r) (sym product) rest))
  where
    g : ℕ
    g = gcd_all (common xs) (map (λ n. pos n) (over_common xs))

    r : ℕ
    r = common xs / g

    product : r * g ≡ common xs
    product = div-mul_cancel g (gcd_all-dvd (common xs) (map (λ n. pos n) (over_common xs)))

    some : 0 < g
    some = pos_of_dvd_of_pos (gcd_all-dvd (common xs) (map (λ n. pos n) (over_common xs))) (common_pos xs)

    some_r : 0 < r
    some_r = go r product
      where
        go : (r : ℕ) → r * g ≡ common xs → 0 < r
        go zero e = absurd (omega (arith, common_pos xs))
        go (suc r) e = omega arith

    rest : common xs ∣ r
    rest = common-dvd-rest xs g r some (subst (λ t. common xs ∣ t) (sym product) (dvd_refl (common xs))) (subst (λ m. g ∣ gcd_all m (unsigned (numerators m xs))) (sym product) (dvd_refl g))

closing_lowest : (a : ProgramValue) (t : Tableau) → IsLowest (certificate a t)
closing_lowest a t = record { allocation = over_common_lowest (product_values a t); prices = over_common_lowest (leg_prices a t) }

-- a program with the network's legs and products asks for the same shape
closing_shaped : (net : NetworkValue) (a : ProgramValue) (t : Tableau) → length a.bounds ≡ length net.products
    → length a.caps ≡ length net.legs → Certifies size_limit a (certificate a t)
    → HasShape size_limit (length net.products) (length net.legs) (certificate a t)
closing_shaped net a t products legs h =
    subst (λ n. HasShape size_limit n (length net.legs) (certificate a t)) products (subst (λ n. HasShape size_limit (length a.bounds) n (certificate a t)) legs h.shape)

pub closings_read : WrittenIsRead → ClosingsAreRead
closings_read written net is a ok products legs n t closes =
    written net is (certificate a t) (closing_shaped net a t products legs (certifies size_limit (ltb-true 1 size_limit refl) a ok n t closes)) (closing_lowest a t)
