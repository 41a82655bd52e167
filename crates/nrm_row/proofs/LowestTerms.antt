-- A row made of numbers over a denominator, in lowest terms: that it is a row, which fractions it stands for, and
-- whether it is Large. Then what a row's parts are of its fractions.
use Rattle.nrm_row.specs.declared.limits.TheConstants.{MOST_COLUMNS}
use Rattle.std.proofs.Common.{◌≡◌, ℕ, zero, suc, ◌/◌, ◌<◌, ℤ, pos, negsuc, ◌<ℤ◌, nat_abs, arith, refl, sym, ap, ap₂, ◌∙◌, subst, List, [], ◌∷◌, length, take, drop, get_or, leb, cond, Bool, true, false, Some, None, leb-false, All}
use Rattle.std.specs.Int.{IsInRange}
use Rattle.std.proofs.lemmas.Bool.Decides.{nat_tests}
use Rattle.std.proofs.lemmas.Int.{ints}
use Rattle.std.proofs.lemmas.List.{drop-map, length-map, take-map}
use Rattle.std.proofs.lemmas.List.Elements.{All-map, All-weaker, All-head, All-tail, All-cons}
use native.Mathlib.Nat.{div-mul_cancel, div-le_self}
use Rattle.nrm_number.specs.Gcd.{shrink}
use Rattle.nrm_number.proofs.GcdLaws.{nat_abs-shrink}
use Rattle.nrm_fraction.specs.Fraction.{Fraction, ◌over◌}
use Rattle.nrm_fraction.specs.Large.{fractions, gcd_all, first_reaching, common, numerators, large_number, size_limit, IsSmall}
use Rattle.nrm_fraction.proofs.Lowest.{common_is, numerators_are}
use Rattle.nrm_row.specs.Numbers.{IsRow}
use Rattle.nrm_row.specs.Inner.Crossed.{shrunk}
use Rattle.nrm_row.proofs.Divisors.{shrunk_same, shrunk_lowest, reduced_below}
use Rattle.nrm_fraction.proofs.CommonDivisors.{gcd_all_pos, gcd_all-dvd, gcd_all-divides}
use Rattle.nrm_fraction.proofs.Reaching.{reaching_no}
use Rattle.nrm_fraction.proofs.Sizes.{positive_abs}

-- one positive denominator and 1 to `MOST_COLUMNS` numbers, in lowest terms and below the limit
pub record IsLowest (den : ℤ) (nums : List ℤ) : Type 0 where
  pub positive : pos 0 <ℤ den
  pub small : IsSmall den
  pub smalls : All IsSmall nums
  pub lowest : gcd_all (nat_abs den) nums ≡ 1
  pub width : IsInRange 1 MOST_COLUMNS (length nums)

some_not_none : (n : ℤ) → Some n ≡ None → ⊥
some_not_none n e = cc

-- where none reaches the limit, all are small
pub small_from_none : (ns : List ℤ) → first_reaching size_limit ns ≡ None → All IsSmall ns
small_from_none [] h k d l = absurd (omega arith)
small_from_none (n ∷ ns) h k d l = go (leb size_limit (nat_abs n)) refl (small_from_none ns) h k l
  where
    go : (b : Bool) → leb size_limit (nat_abs n) ≡ b → (first_reaching size_limit ns ≡ None → All IsSmall ns) → cond b (Some n) (first_reaching size_limit ns) ≡ None → (k : ℕ) → k < suc (length ns) → IsSmall (get_or (n ∷ ns) k d)
    go true e rest h k l = absurd (some_not_none n h)
    go false e rest h zero l = leb-false size_limit (nat_abs n) e
    go false e rest h (suc k) l = rest h k d (omega arith)

-- and the other way round
none_reaches : (ns : List ℤ) → All IsSmall ns → first_reaching size_limit ns ≡ None
none_reaches [] h = refl
none_reaches (n ∷ ns) h = reaching_no n ns (not_reached (nat_abs n) (All-head IsSmall n ns h)) ∙ none_reaches ns (All-tail IsSmall n ns h)
  where
    not_reached : (m : ℕ) → m < size_limit → leb size_limit m ≡ false
    not_reached m l = grind (arith, nat_tests)

-- ---- lowest terms
lowest_parts : (d : ℤ) (ns : List ℤ) → pos 0 <ℤ d → (shrink d (gcd_all (nat_abs d) ns) ≡ pos (nat_abs d / gcd_all (nat_abs d) ns)) × (0 < nat_abs d / gcd_all (nat_abs d) ns)
lowest_parts (pos zero) ns h = absurd (omega (arith, ints))
lowest_parts (pos (suc d)) ns h = (refl, reduced_below (suc d) (gcd_all (suc d) ns) (omega arith) (div-mul_cancel (gcd_all (suc d) ns) (gcd_all-dvd (suc d) ns)))
lowest_parts (negsuc d) ns h = absurd (omega (arith, ints))

-- numbers over a denominator, divided by what they have in common, are a row if they are small
pub lowest_is_row : (d : ℤ) (ns : List ℤ) → pos 0 <ℤ d → IsSmall (shrink d (gcd_all (nat_abs d) ns)) → All IsSmall (shrunk (gcd_all (nat_abs d) ns) ns) → IsInRange 1 MOST_COLUMNS (length ns) → IsLowest (shrink d (gcd_all (nat_abs d) ns)) (shrunk (gcd_all (nat_abs d) ns) ns)
lowest_is_row d ns h small smalls w = record {
  positive = subst (λ z. pos 0 <ℤ z) (sym (lowest_parts d ns h).0) (omega (arith, ints, (lowest_parts d ns h).1));
  small = small;
  smalls = smalls;
  lowest = ap (λ z. gcd_all (nat_abs z) (shrunk (gcd_all (nat_abs d) ns) ns)) (lowest_parts d ns h).0 ∙ shrunk_lowest (nat_abs d) ns (positive_abs d h).1;
  width = subst (IsInRange 1 MOST_COLUMNS) (sym (length-map ns (λ n. shrink n (gcd_all (nat_abs d) ns)))) w;
}

pub shrink_small : (g : ℕ) (n : ℤ) → IsSmall n → IsSmall (shrink n g)
shrink_small g n h = omega (arith, nat_abs-shrink n g, div-le_self (nat_abs n) g)

-- numbers below the limit stay below it
pub small_is_row : (d : ℤ) (ns : List ℤ) → IsRow d ns → IsLowest (shrink d (gcd_all (nat_abs d) ns)) (shrunk (gcd_all (nat_abs d) ns) ns)
small_is_row d ns r =
    lowest_is_row d ns r.positive (shrink_small (gcd_all (nat_abs d) ns) d r.small)
    (All-map IsSmall (λ n. shrink n (gcd_all (nat_abs d) ns)) ns (All-weaker IsSmall (λ n. IsSmall (shrink n (gcd_all (nat_abs d) ns))) (shrink_small (gcd_all (nat_abs d) ns)) ns r.smalls)) r.width

-- and stand for the same fractions
pub lowest_same : (d : ℤ) (ns : List ℤ) → pos 0 <ℤ d → fractions (nat_abs (shrink d (gcd_all (nat_abs d) ns))) (shrunk (gcd_all (nat_abs d) ns) ns) ≡ fractions (nat_abs d) ns
lowest_same d ns h =
    ap (λ z. fractions (nat_abs z) (shrunk (gcd_all (nat_abs d) ns) ns)) (lowest_parts d ns h).0
    ∙ shrunk_same (nat_abs d) (gcd_all (nat_abs d) ns) ns (positive_abs d h).1 (lowest_parts d ns h).1 (div-mul_cancel (gcd_all (nat_abs d) ns) (gcd_all-dvd (nat_abs d) ns)) (gcd_all_pos (nat_abs d) ns (positive_abs d h).1) (gcd_all-divides (nat_abs d) ns)

-- a row, by the tests of its numbers
pub made_is_row : (d : ℤ) (ns : List ℤ) → pos 0 <ℤ d → leb size_limit (nat_abs (shrink d (gcd_all (nat_abs d) ns))) ≡ false → first_reaching size_limit (shrunk (gcd_all (nat_abs d) ns) ns) ≡ None → IsInRange 1 MOST_COLUMNS (length ns) → IsLowest (shrink d (gcd_all (nat_abs d) ns)) (shrunk (gcd_all (nat_abs d) ns) ns)
made_is_row d ns h small none w = lowest_is_row d ns h (leb-false size_limit (nat_abs (shrink d (gcd_all (nat_abs d) ns))) small) (small_from_none (shrunk (gcd_all (nat_abs d) ns) ns) none) w

-- the first number of the exact row that reaches a limit
large_is : (limit : ℕ) (d : ℤ) (ns : List ℤ) → pos 0 <ℤ d → large_number limit (fractions (nat_abs d) ns) ≡ first_reaching limit (shrink d (gcd_all (nat_abs d) ns) ∷ shrunk (gcd_all (nat_abs d) ns) ns)
large_is limit d ns h =
    ap (large_number limit) (sym (lowest_same d ns h) ∙ ap (λ z. fractions (nat_abs z) N) (lowest_parts d ns h).0)
    ∙ ap₂ (λ m ms. first_reaching limit (pos m ∷ ms)) common_here (ap (λ m. numerators m (fractions M N)) common_here ∙ numerators_are M N (lowest_parts d ns h).1)
    ∙ ap (λ z. first_reaching limit (z ∷ N)) (sym (lowest_parts d ns h).0)
  where
    M : ℕ
    M = nat_abs d / gcd_all (nat_abs d) ns

    N : List ℤ
    N = shrunk (gcd_all (nat_abs d) ns) ns

    common_here : common (fractions M N) ≡ M
    common_here = common_is M N (lowest_parts d ns h).1 (shrunk_lowest (nat_abs d) ns (positive_abs d h).1)

-- it is the denominator, or one of the numbers
pub large_den : (limit : ℕ) (d : ℤ) (ns : List ℤ) → pos 0 <ℤ d → leb limit (nat_abs (shrink d (gcd_all (nat_abs d) ns))) ≡ true → large_number limit (fractions (nat_abs d) ns) ≡ Some (shrink d (gcd_all (nat_abs d) ns))
large_den limit d ns h large = large_is limit d ns h ∙ ap (λ b. cond b (Some (shrink d (gcd_all (nat_abs d) ns))) (first_reaching limit (shrunk (gcd_all (nat_abs d) ns) ns))) large

pub large_of_numbers : (limit : ℕ) (d : ℤ) (ns : List ℤ) → pos 0 <ℤ d → leb limit (nat_abs (shrink d (gcd_all (nat_abs d) ns))) ≡ false → large_number limit (fractions (nat_abs d) ns) ≡ first_reaching limit (shrunk (gcd_all (nat_abs d) ns) ns)
large_of_numbers limit d ns h small = large_is limit d ns h ∙ ap (λ b. cond b (Some (shrink d (gcd_all (nat_abs d) ns))) (first_reaching limit (shrunk (gcd_all (nat_abs d) ns) ns))) small

-- a row isn't Large
pub row_not_large : (d : ℤ) (ns : List ℤ) → IsLowest d ns → large_number size_limit (fractions (nat_abs d) ns) ≡ None
row_not_large d ns r =
    ap₂ (λ m ms. first_reaching size_limit (pos m ∷ ms)) common_here (ap (λ m. numerators m (fractions (nat_abs d) ns)) common_here ∙ numerators_are (nat_abs d) ns (positive_abs d r.positive).1)
    ∙ none_reaches (pos (nat_abs d) ∷ ns) (All-cons IsSmall (pos (nat_abs d)) ns r.small r.smalls)
  where
    common_here : common (fractions (nat_abs d) ns) ≡ nat_abs d
    common_here = common_is (nat_abs d) ns (positive_abs d r.positive).1 r.lowest

-- a row in lowest terms is a row
pub loosened : (d : ℤ) (ns : List ℤ) → IsLowest d ns → IsRow d ns
loosened d ns r = record { positive = r.positive; small = r.small; smalls = r.smalls; width = r.width }

-- a row is never Large, in lowest terms or not
pub small_not_large : (d : ℤ) (ns : List ℤ) → IsRow d ns → large_number size_limit (fractions (nat_abs d) ns) ≡ None
small_not_large d ns r = ap (large_number size_limit) (sym (lowest_same d ns r.positive)) ∙ row_not_large _ _ (small_is_row d ns r)

-- ---- what a row's parts are of its fractions
pub row_den : (d : ℤ) (ns : List ℤ) (row : List Fraction) → IsRow d ns → fractions (nat_abs d) ns ≡ row → shrink d (gcd_all (nat_abs d) ns) ≡ pos (common row)
row_den d ns row r e =
    (positive_abs _ (small_is_row d ns r).positive).0 ∙ ap pos (sym (common_is _ _ (positive_abs _ (small_is_row d ns r).positive).1 (small_is_row d ns r).lowest)) ∙ ap (λ t. pos (common t)) (lowest_same d ns r.positive ∙ e)

pub row_nums : (d : ℤ) (ns : List ℤ) (row : List Fraction) → IsRow d ns → fractions (nat_abs d) ns ≡ row → numerators (common row) row ≡ shrunk (gcd_all (nat_abs d) ns) ns
row_nums d ns row r e =
    sym (ap (λ t. numerators (common t) t) (lowest_same d ns r.positive ∙ e))
    ∙ ap (λ m. numerators m (fractions (nat_abs (shrink d (gcd_all (nat_abs d) ns))) (shrunk (gcd_all (nat_abs d) ns) ns))) (common_is _ _ (positive_abs _ (small_is_row d ns r).positive).1 (small_is_row d ns r).lowest)
    ∙ numerators_are _ _ (positive_abs _ (small_is_row d ns r).positive).1

pub row_length : (d : ℤ) (ns : List ℤ) (row : List Fraction) → fractions (nat_abs d) ns ≡ row → length row ≡ length ns
row_length d ns row e = sym (ap length e) ∙ length-map ns (λ n. n over nat_abs d)

-- some of a row's columns
pub row_part : (d : ℕ) (ns : List ℤ) (row : List Fraction) (k n : ℕ) → fractions d ns ≡ row → fractions d (take n (drop k ns)) ≡ take n (drop k row)
row_part d ns row k n e = sym (take-map (λ m. m over d) n (drop k ns)) ∙ ap (take n) (sym (drop-map (λ m. m over d) k ns)) ∙ ap (λ r. take n (drop k r)) e
