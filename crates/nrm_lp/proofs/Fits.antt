-- The limits of a program as a test that computes, for programs that are written down.
use Rattle.std.proofs.Common.{◌≡◌, ℕ, zero, suc, ◌<◌, ◌≤◌, arith, Bool, true, false, not, ◌&&◌, List, [], ◌∷◌, length, get_or, ltb}
use Rattle.std.proofs.lemmas.Bool.{ltb-true, and_parts, false≢true, not-true}
use Rattle.nrm_lp.specs.Program.{ProgramValue, AreLegs, AreProducts, names}
use Rattle.nrm_lp.specs.Limits.{IsLimited}

abbrev pub legs_fit : ℕ → List ℕ → Bool
legs_fit n [] = true
legs_fit n (l ∷ ls) = ltb l n && (not (names l ls) && legs_fit n ls)

abbrev pub caps_fit : List ℕ → Bool
caps_fit [] = true
caps_fit (cap ∷ caps) = ltb cap 31969 && caps_fit caps

-- a bound, a fare and legs within the limits
abbrev pub product_fits : ℕ → ℕ → ℕ → List ℕ → Bool
product_fits n u r ls = ltb u 31969 && (ltb 0 r && (ltb r 100000000 && (ltb 0 (length ls) && (ltb (length ls) 5 && legs_fit n ls))))

abbrev pub products_fit : ℕ → List ℕ → List ℕ → List (List ℕ) → Bool
products_fit n [] [] [] = true
products_fit n [] [] (ls ∷ legs) = false
products_fit n [] (r ∷ rs) legs = false
products_fit n (u ∷ us) [] legs = false
products_fit n (u ∷ us) (r ∷ rs) [] = false
products_fit n (u ∷ us) (r ∷ rs) (ls ∷ legs) = product_fits n u r ls && products_fit n us rs legs

abbrev pub program_fits : ProgramValue → Bool
program_fits a =
    ltb 0 (length a.caps) && (ltb (length a.caps) 65 && (ltb 0 (length a.bounds) && (ltb (length a.bounds) 257
    && (caps_fit a.caps && products_fit (length a.caps) a.bounds a.fares a.legs))))

are_legs : (n : ℕ) (ls : List ℕ) → legs_fit n ls ≡ true → AreLegs n ls
are_legs n [] e = tt
are_legs n (l ∷ ls) e =
    let f : (ltb l n ≡ true) × ((not (names l ls) && legs_fit n ls) ≡ true) = and_parts _ _ e in
    let g : (not (names l ls) ≡ true) × (legs_fit n ls ≡ true) = and_parts _ _ f.1 in
    (ltb-true l n f.0, not-true (names l ls) g.0, are_legs n ls g.1)

caps_small : (caps : List ℕ) → caps_fit caps ≡ true → (i : ℕ) → i < length caps → get_or caps i 0 ≤ 31968
caps_small [] e i l = absurd (omega (arith, l))
caps_small (cap ∷ caps) e zero l = omega (arith, ltb-true cap 31969 (and_parts _ _ e).0)
caps_small (cap ∷ caps) e (suc i) l = caps_small caps (and_parts _ _ e).1 i (omega (arith, l))

-- what the test says of one product
record Fits (n u r : ℕ) (ls : List ℕ) : Type 0 where
  bound : u ≤ 31968
  some_fare : 1 ≤ r
  fare : r ≤ 99999999
  some_leg : 1 ≤ length ls
  leg_count : length ls ≤ 4
  legs : AreLegs n ls

fits_one : (n u r : ℕ) (ls : List ℕ) → product_fits n u r ls ≡ true → Fits n u r ls
fits_one n u r ls e =
    let e1 : (ltb u 31969 ≡ true) × ((ltb 0 r && (ltb r 100000000 && (ltb 0 (length ls) && (ltb (length ls) 5 && legs_fit n ls)))) ≡ true) = and_parts _ _ e in
    let e2 : (ltb 0 r ≡ true) × ((ltb r 100000000 && (ltb 0 (length ls) && (ltb (length ls) 5 && legs_fit n ls))) ≡ true) = and_parts _ _ e1.1 in
    let e3 : (ltb r 100000000 ≡ true) × ((ltb 0 (length ls) && (ltb (length ls) 5 && legs_fit n ls)) ≡ true) = and_parts _ _ e2.1 in
    let e4 : (ltb 0 (length ls) ≡ true) × ((ltb (length ls) 5 && legs_fit n ls) ≡ true) = and_parts _ _ e3.1 in
    let e5 : (ltb (length ls) 5 ≡ true) × (legs_fit n ls ≡ true) = and_parts _ _ e4.1 in
    record {
      bound = omega (arith, ltb-true u 31969 e1.0);
      some_fare = omega (arith, ltb-true 0 r e2.0);
      fare = omega (arith, ltb-true r 100000000 e3.0);
      some_leg = omega (arith, ltb-true 0 (length ls) e4.0);
      leg_count = omega (arith, ltb-true (length ls) 5 e5.0);
      legs = are_legs n ls e5.1;
    }

-- and of all
are_products : (n : ℕ) (us rs : List ℕ) (legs : List (List ℕ)) → products_fit n us rs legs ≡ true → AreProducts n us rs legs
are_products n [] [] [] e = tt
are_products n [] [] (ls ∷ legs) e = absurd (false≢true e)
are_products n [] (r ∷ rs) legs e = absurd (false≢true e)
are_products n (u ∷ us) [] legs e = absurd (false≢true e)
are_products n (u ∷ us) (r ∷ rs) [] e = absurd (false≢true e)
are_products n (u ∷ us) (r ∷ rs) (ls ∷ legs) e =
    let f : (product_fits n u r ls ≡ true) × (products_fit n us rs legs ≡ true) = and_parts _ _ e in
    ((fits_one n u r ls f.0).legs, are_products n us rs legs f.1)

fits_at : (n : ℕ) (us rs : List ℕ) (legs : List (List ℕ)) → products_fit n us rs legs ≡ true → (j : ℕ) → j < length us → Fits n (get_or us j 0) (get_or rs j 0) (get_or legs j [])
fits_at n [] [] [] e j l = absurd (omega (arith, l))
fits_at n [] [] (ls ∷ legs) e j l = absurd (false≢true e)
fits_at n [] (r ∷ rs) legs e j l = absurd (false≢true e)
fits_at n (u ∷ us) [] legs e j l = absurd (false≢true e)
fits_at n (u ∷ us) (r ∷ rs) [] e j l = absurd (false≢true e)
fits_at n (u ∷ us) (r ∷ rs) (ls ∷ legs) e zero l = fits_one n u r ls (and_parts _ _ e).0
fits_at n (u ∷ us) (r ∷ rs) (ls ∷ legs) e (suc j) l = fits_at n us rs legs (and_parts _ _ e).1 j (omega (arith, l))

pub IsLimited-from_test : (a : ProgramValue) → program_fits a ≡ true → IsLimited a
IsLimited-from_test a e =
    let e1 : (ltb 0 (length a.caps) ≡ true) × ((ltb (length a.caps) 65 && (ltb 0 (length a.bounds) && (ltb (length a.bounds) 257 && (caps_fit a.caps && products_fit (length a.caps) a.bounds a.fares a.legs)))) ≡ true) = and_parts _ _ e in
    let e2 : (ltb (length a.caps) 65 ≡ true) × ((ltb 0 (length a.bounds) && (ltb (length a.bounds) 257 && (caps_fit a.caps && products_fit (length a.caps) a.bounds a.fares a.legs))) ≡ true) = and_parts _ _ e1.1 in
    let e3 : (ltb 0 (length a.bounds) ≡ true) × ((ltb (length a.bounds) 257 && (caps_fit a.caps && products_fit (length a.caps) a.bounds a.fares a.legs)) ≡ true) = and_parts _ _ e2.1 in
    let e4 : (ltb (length a.bounds) 257 ≡ true) × ((caps_fit a.caps && products_fit (length a.caps) a.bounds a.fares a.legs) ≡ true) = and_parts _ _ e3.1 in
    let e5 : (caps_fit a.caps ≡ true) × (products_fit (length a.caps) a.bounds a.fares a.legs ≡ true) = and_parts _ _ e4.1 in
    record {
      some_caps = omega (arith, ltb-true 0 (length a.caps) e1.0);
      cap_count = omega (arith, ltb-true (length a.caps) 65 e2.0);
      some_bounds = omega (arith, ltb-true 0 (length a.bounds) e3.0);
      bound_count = omega (arith, ltb-true (length a.bounds) 257 e4.0);
      cap_size = caps_small a.caps e5.0;
      bound_size = λ j l. (fits_at (length a.caps) a.bounds a.fares a.legs e5.1 j l).bound;
      some_fare = λ j l. (fits_at (length a.caps) a.bounds a.fares a.legs e5.1 j l).some_fare;
      fare_size = λ j l. (fits_at (length a.caps) a.bounds a.fares a.legs e5.1 j l).fare;
      some_leg = λ j l. (fits_at (length a.caps) a.bounds a.fares a.legs e5.1 j l).some_leg;
      leg_count = λ j l. (fits_at (length a.caps) a.bounds a.fares a.legs e5.1 j l).leg_count;
      products = are_products (length a.caps) a.bounds a.fares a.legs e5.1;
    }
