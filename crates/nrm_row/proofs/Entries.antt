-- What a row's numbers are of its entries, and the signs of these.
use Rattle.std.proofs.Common.{false, ◌≡◌, ℕ, ◌/◌, ◌<◌, ◌≤◌, ◌⊎◌, inl, inr, ℤ, pos, ◌*ℤ◌, ◌<ℤ◌, nat_abs, arith, refl, sym, ap, ap₂, ◌∙◌, subst, List, [], ◌∷◌, length, get_or, None}
use Rattle.std.proofs.lemmas.List.{get_or-map, get_or_past, length-map}
use Rattle.std.proofs.lemmas.Bool.{cases_lt}
use Rattle.std.specs.Int.RustNames.{int_lt}
use Rattle.nrm_number.proofs.Integers.{ring_ℤ}
use Rattle.nrm_number.proofs.Ring.{solve, v0, v1, v2}
use Rattle.nrm_number.proofs.Ring.Expr.{◌⊗◌, e0, e1}
use Rattle.nrm_fraction.specs.Fraction.{Fraction, ◌over◌, ◌<ᶠ◌, less, whole}
use Rattle.nrm_fraction.specs.Large.{fractions, common, numerators, large_number, size_limit}
use Rattle.nrm_fraction.specs.Lex.{lex_below}
use Rattle.nrm_fraction.specs.Rows.{at, unit_row, ratio_columns, ratios}
use Rattle.nrm_fraction.proofs.Values.{IsValue, IsValue_over, same_value}
use Rattle.nrm_fraction.proofs.Lowest.{common_pos}
use Rattle.nrm_fraction.proofs.Embed.{den-dvd-common}
use native.Mathlib.Nat.{div-mul_cancel}
use Rattle.nrm_fraction.proofs.Field.{IsValue_whole, below_to, <ᶠ_irrefl}
use Rattle.nrm_fraction.proofs.Tests.{less-is, less_unless}
use Rattle.std.proofs.lemmas.Int.{ints}
use Rattle.nrm_row.specs.Numbers.{IsRow}
use Rattle.nrm_row.specs.Inner.Crossed.{crossed_below}
use Rattle.nrm_row.proofs.RatioLaws.{unit_is, crossed_below_is, ratio_columns_within}
use Rattle.nrm_row.proofs.LowestTerms.{row_length, small_not_large}
use Rattle.nrm_fraction.proofs.Sizes.{positive_abs}

pub entry_is : (D : ℕ) (ns : List ℤ) (col : ℕ) → col < length ns → at (fractions D ns) col ≡ get_or ns col (pos 0) over D
entry_is D ns col h = get_or-map (λ n. n over D) ns col (pos 0) (whole (pos 0)) h

times_one : (n : ℤ) → n *ℤ pos 1 ≡ n
times_one n = solve ring_ℤ (n ∷ []) (v0 ⊗ e1) v0 refl

nought_times : (n : ℤ) → pos 0 *ℤ n ≡ pos 0
nought_times n = solve ring_ℤ (n ∷ []) (e0 ⊗ v0) e0 refl

-- an entry is its number over the least common denominator
entry_value : (row : List Fraction) (col : ℕ) → col < length row → IsValue (at row col) (get_or (numerators (common row) row) col (pos 0)) (common row)
entry_value row col h = record {
  divides = common_pos row;
  worth =
      ap (λ m. (at row col).num *ℤ pos m) (sym (div-mul_cancel (at row col).den (den-dvd-common row col h (whole (pos 0)))))
      ∙ solve ring_ℤ ((at row col).num ∷ pos (common row / (at row col).den) ∷ pos (at row col).den ∷ []) (v0 ⊗ (v1 ⊗ v2)) (v0 ⊗ v1 ⊗ v2) refl
      ∙ ap (λ n. n *ℤ pos (at row col).den) (sym (get_or-map (λ x. x.num *ℤ pos (common row / x.den)) row col (whole (pos 0)) (pos 0) h));
}

pub negative_is : (row : List Fraction) (col : ℕ) → col < length row → int_lt (get_or (numerators (common row) row) col (pos 0)) (pos 0) ≡ less (at row col) (whole (pos 0))
negative_is row col h =
    sym (less-is (at row col) (whole (pos 0)) (get_or (numerators (common row) row) col (pos 0)) (pos 0) (common row) 1 (entry_value row col h) (IsValue_whole (pos 0))
    ∙ ap₂ int_lt (times_one (get_or (numerators (common row) row) col (pos 0))) (nought_times (pos (common row))))

-- a number over the row's denominator, and its sign
entry_over : (d : ℤ) (ns : List ℤ) (row : List Fraction) (col : ℕ) → fractions (nat_abs d) ns ≡ row → col < length row → get_or ns col (pos 0) over nat_abs d ≡ at row col
entry_over d ns row col e w = sym (entry_is (nat_abs d) ns col (omega (arith, row_length d ns row e))) ∙ ap (λ xs. at xs col) e

pub negative_over : (d : ℤ) (ns : List ℤ) (row : List Fraction) (col : ℕ) → pos 0 <ℤ d → fractions (nat_abs d) ns ≡ row → col < length row → int_lt (get_or ns col (pos 0)) (pos 0) ≡ less (at row col) (whole (pos 0))
negative_over d ns row col h e w =
    sym (less-is (get_or ns col (pos 0) over nat_abs d) (whole (pos 0)) (get_or ns col (pos 0)) (pos 0) (nat_abs d) 1 (IsValue_over (get_or ns col (pos 0)) (nat_abs d) (positive_abs d h).1) (IsValue_whole (pos 0))
    ∙ ap₂ int_lt (times_one (get_or ns col (pos 0))) (nought_times (pos (nat_abs d))))
    ∙ ap (λ x. less x (whole (pos 0))) (entry_over d ns row col e w)

pub positive_over : (d : ℤ) (ns : List ℤ) (row : List Fraction) (col : ℕ) → pos 0 <ℤ d → fractions (nat_abs d) ns ≡ row → col < length row → int_lt (pos 0) (get_or ns col (pos 0)) ≡ less (whole (pos 0)) (at row col)
positive_over d ns row col h e w =
    sym (less-is (whole (pos 0)) (get_or ns col (pos 0) over nat_abs d) (pos 0) (get_or ns col (pos 0)) 1 (nat_abs d) (IsValue_whole (pos 0)) (IsValue_over (get_or ns col (pos 0)) (nat_abs d) (positive_abs d h).1)
    ∙ ap₂ int_lt (nought_times (pos (nat_abs d))) (times_one (get_or ns col (pos 0))))
    ∙ ap (λ x. less (whole (pos 0)) x) (entry_over d ns row col e w)

-- where the number is 0, and past the end, the entry is 0
pub nought_entry : (d : ℤ) (ns : List ℤ) (row : List Fraction) (col : ℕ) → pos 0 <ℤ d → fractions (nat_abs d) ns ≡ row → get_or ns col (pos 0) ≡ pos 0 → at row col ≡ whole (pos 0)
nought_entry d ns row col h e z = ap (λ xs. at xs col) (sym e) ∙ by_place (cases_lt col (length ns))
  where
    by_place : (col < length ns) ⊎ (length ns ≤ col) → at (fractions (nat_abs d) ns) col ≡ whole (pos 0)
    by_place (inl l) =
        entry_is (nat_abs d) ns col l ∙ ap (λ n. n over nat_abs d) z
        ∙ same_value (pos 0 over nat_abs d) (whole (pos 0)) (pos 0) (pos 0) (nat_abs d) 1 (IsValue_over (pos 0) (nat_abs d) (positive_abs d h).1) (IsValue_whole (pos 0))
        (nought_times (pos 1) ∙ sym (nought_times (pos (nat_abs d))))
    by_place (inr l) = get_or_past (fractions (nat_abs d) ns) col (whole (pos 0)) (omega (arith, length-map ns (λ n. n over nat_abs d), l))

-- an entry is 0 only if its number is
pub nought_number : (d : ℤ) (ns : List ℤ) (row : List Fraction) (col : ℕ) → pos 0 <ℤ d → fractions (nat_abs d) ns ≡ row → col < length row → at row col ≡ whole (pos 0) → get_or ns col (pos 0) ≡ pos 0
nought_number d ns row col h e w z =
    neither (get_or ns col (pos 0))
    (negative_over d ns row col h e w ∙ ap (λ x. less x (whole (pos 0))) z ∙ equal)
    (positive_over d ns row col h e w ∙ ap (less (whole (pos 0))) z ∙ equal)
  where
    equal : less (whole (pos 0)) (whole (pos 0)) ≡ false
    equal = less_unless (whole (pos 0)) (whole (pos 0)) (<ᶠ_irrefl (whole (pos 0)))

    neither : (n : ℤ) → int_lt n (pos 0) ≡ false → int_lt (pos 0) n ≡ false → n ≡ pos 0
    neither n below above = omega (arith, ints)

-- a positive entry has a positive number
pub positive_number : (d : ℤ) (ns : List ℤ) (row : List Fraction) (col : ℕ) → pos 0 <ℤ d → fractions (nat_abs d) ns ≡ row → col < length row → whole (pos 0) <ᶠ at row col → pos 0 <ℤ get_or ns col (pos 0)
positive_number d ns row col h e w p =
    subst (λ t. t) (ap₂ (λ s t. s <ℤ t) (nought_times (pos (nat_abs d))) (times_one (get_or ns col (pos 0))))
    (below_to (whole (pos 0)) (get_or ns col (pos 0) over nat_abs d) (pos 0) (get_or ns col (pos 0)) 1 (nat_abs d) (IsValue_whole (pos 0)) (IsValue_over (get_or ns col (pos 0)) (nat_abs d) (positive_abs d h).1)
    (subst (λ x. whole (pos 0) <ᶠ x) (sym (entry_over d ns row col e w)) p))

-- ---- a row divided by the entry at a column
pub unit_is_row : (d : ℤ) (ns : List ℤ) (row : List Fraction) (col : ℕ) → IsRow d ns → fractions (nat_abs d) ns ≡ row → col < length row → whole (pos 0) <ᶠ at row col → IsRow (get_or ns col (pos 0)) ns
unit_is_row d ns row col r e w p = record {
  positive = positive_number d ns row col r.positive e w p;
  small = r.smalls col (pos 0) (omega (arith, row_length d ns row e));
  smalls = r.smalls;
  width = r.width;
}

pub unit_row_is : (d : ℤ) (ns : List ℤ) (row : List Fraction) (col : ℕ) → IsRow d ns → fractions (nat_abs d) ns ≡ row → col < length row → whole (pos 0) <ᶠ at row col → fractions (nat_abs (get_or ns col (pos 0))) ns ≡ unit_row col row
unit_row_is d ns row col r e w p =
    sym (unit_is (nat_abs d) ns col (nat_abs (get_or ns col (pos 0))) (positive_abs d r.positive).1 (positive_abs _ (positive_number d ns row col r.positive e w p)).1 (positive_abs _ (positive_number d ns row col r.positive e w p)).0 (omega (arith, row_length d ns row e)))
    ∙ ap (unit_row col) e

pub unit_small : (d : ℤ) (ns : List ℤ) (row : List Fraction) (col : ℕ) → IsRow d ns → fractions (nat_abs d) ns ≡ row → col < length row → whole (pos 0) <ᶠ at row col → large_number size_limit (unit_row col row) ≡ None
unit_small d ns row col r e w p = ap (large_number size_limit) (sym (unit_row_is d ns row col r e w p)) ∙ small_not_large (get_or ns col (pos 0)) ns (unit_is_row d ns row col r e w p)

-- ---- the ratios of two rows
pub ratios_below_is : (d e : ℤ) (ns ms : List ℤ) (row other : List Fraction) (col from : ℕ) → pos 0 <ℤ d → pos 0 <ℤ e → fractions (nat_abs d) ns ≡ row → fractions (nat_abs e) ms ≡ other → length other ≡ length row → col < length row → from < length row → whole (pos 0) <ᶠ at row col → whole (pos 0) <ᶠ at other col → crossed_below (get_or ns col (pos 0)) (get_or ms col (pos 0)) ns ms (ratio_columns from (length ns)) ≡ lex_below (ratios (ratio_columns from (length row)) col row) (ratios (ratio_columns from (length row)) col other)
ratios_below_is d e ns ms row other col from hd he rd re l w v p q =
    ap₂ (λ s t. crossed_below s t ns ms (ratio_columns from (length ns))) (positive_abs (get_or ns col (pos 0)) left).0 (positive_abs (get_or ms col (pos 0)) right).0
    ∙ crossed_below_is (nat_abs d) (nat_abs e) ns ms col (nat_abs (get_or ns col (pos 0))) (nat_abs (get_or ms col (pos 0))) (ratio_columns from (length ns)) (positive_abs d hd).1 (positive_abs e he).1 (positive_abs (get_or ns col (pos 0)) left).1 (positive_abs (get_or ms col (pos 0)) right).1
    (positive_abs (get_or ns col (pos 0)) left).0 (positive_abs (get_or ms col (pos 0)) right).0 (omega (arith, same)) (omega (arith, same)) (ratio_columns_within from (length ns) (omega (arith, same)))
    ∙ (λ i. lex_below (ratios (ratio_columns from (sym (row_length d ns row rd) i)) col (rd i)) (ratios (ratio_columns from (sym (row_length d ns row rd) i)) col (re i)))
  where
    same : (length row ≡ length ns) × (length other ≡ length ms)
    same = (row_length d ns row rd, row_length e ms other re)

    left : pos 0 <ℤ get_or ns col (pos 0)
    left = positive_number d ns row col hd rd w p

    right : pos 0 <ℤ get_or ms col (pos 0)
    right = positive_number e ms other col he re (omega arith) q
