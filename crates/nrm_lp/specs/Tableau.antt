-- The tableaux of the simplex method on a program: the first one, the entering column, the leaving row and the pivot.
-- Columns: the products, the slack of each leg, the slack of each bound, the right side.
-- Constraint rows: one for each leg, then one for the bound of each product. The value row stands apart from them.
use Rattle.std.specs.Prelude.{ℕ, suc, ◌+◌, ◌-◌, pos, neg_ℤ, Bool, cond, eqb, ltb, List, [], ◌∷◌, map, set, length, get_or, Option, Some}
use Rattle.std.specs.Prelude.{None, if◌then◌else◌, ◌==◌, nat_lt, slice_index}
use Rattle.std.specs.List.{range_with_len}
use Rattle.nrm_fraction.specs.Fraction.{Fraction, whole, less}
use Rattle.nrm_fraction.specs.Lex.{lex_below}
use Rattle.nrm_fraction.specs.Rows.{at, unit_row, combine, ratios}
use Rattle.nrm_lp.specs.Program.{ProgramValue, names}

-- the constraint rows, the value row, and the basic column of each constraint row
pub record Tableau : Type 0 where
  pub rows : List (List Fraction)
  pub value : List Fraction
  pub basis : List ℕ

-- ---- the columns and rows of a program
-- products have the first columns
abbrev pub product_count : ProgramValue → ℕ
product_count a = length a.bounds

-- how many constraint rows there are
abbrev pub row_count : ProgramValue → ℕ
row_count a = length a.caps + length a.bounds

-- the slack column of constraint row k
abbrev pub slack : ProgramValue → ℕ → ℕ
slack a k = product_count a + k

-- the last column
abbrev pub right_side : ProgramValue → ℕ
right_side a = product_count a + row_count a

abbrev pub one_if : Bool → Fraction
one_if b = if b then whole (pos 1) else whole (pos 0)

-- what constraint row i is bounded by: the cap of its leg, or the bound of its product
abbrev pub row_bound : ProgramValue → ℕ → ℕ
row_bound a i = if nat_lt i (length a.caps) then slice_index a.caps i else slice_index a.bounds (i - length a.caps)

-- whether product c counts in constraint row i: the row's leg is one of the product's, or the row's bound is the
-- product's
abbrev pub uses : ProgramValue → ℕ → ℕ → Bool
uses a i c = cond (ltb i (length a.caps)) (names i (get_or a.legs c [])) (eqb c (i - length a.caps))

-- the first constraint row i: a 1 at each product that counts in it, a 1 at its own slack, and its bound on the right
-- side
abbrev pub first_entry : ProgramValue → ℕ → ℕ → Fraction
first_entry a i c =
    if nat_lt c (product_count a) then one_if (uses a i c)
    else if nat_lt c (right_side a) then one_if (c == slack a i)
    else whole (pos (row_bound a i))

-- the first value row: the fares with their signs turned
abbrev pub first_value : ProgramValue → ℕ → Fraction
first_value a c = if nat_lt c (product_count a) then whole (neg_ℤ (pos (slice_index a.fares c))) else whole (pos 0)

-- every slack is basic in its own row
abbrev pub first_tableau : ProgramValue → Tableau
first_tableau a = record {
  rows = map (λ i. map (first_entry a i) (range_with_len 0 (suc (right_side a)))) (range_with_len 0 (row_count a));
  value = map (first_value a) (range_with_len 0 (suc (right_side a)));
  basis = map (slack a) (range_with_len 0 (row_count a));
}

-- ---- one pivot
-- row r becomes the row us, every other row loses a multiple of it so that column s is 0 there, and s is basic in row r
abbrev pub pivot_by : Tableau → ℕ → ℕ → List Fraction → Tableau
pivot_by t r s us = record { rows = set (map (combine s us) t.rows) r us; value = combine s us t.value; basis = set t.basis r s }

-- the pivot on row r and column s: the row divided by its entry there, and then as above
abbrev pub pivot : Tableau → ℕ → ℕ → Tableau
pivot t r s = pivot_by t r s (unit_row s (get_or t.rows r []))

-- ---- the lexicographic rule
-- the lowest-numbered column before the right side with a negative entry in the value row, counted from c on
abbrev pub entering_from : ℕ → List Fraction → Option ℕ
entering_from c [] = None
entering_from c (x ∷ []) = None
entering_from c (x ∷ y ∷ ys) = if less x (whole (pos 0)) then Some c else entering_from (suc c) (y ∷ ys)

abbrev pub entering : Tableau → Option ℕ
entering t = entering_from 0 t.value

-- the columns by which rows are compared: the right side, then the slack columns
abbrev pub key_columns : ProgramValue → List ℕ
key_columns a = right_side a ∷ map (slack a) (range_with_len 0 (row_count a))

-- of row k with this list and the best of the rows behind it, the one with the lesser list
abbrev pub better : ℕ → List Fraction → Option (ℕ × List Fraction) → Option (ℕ × List Fraction)
better k list None = Some (k, list)
better k list (Some best) = if lex_below list (best.1) then Some (k, list) else Some best

-- among these rows, numbered from k on, those with a positive entry at column s: the one whose list, divided by that
-- entry, is least
abbrev pub leaving_from : List ℕ → ℕ → ℕ → List (List Fraction) → Option (ℕ × List Fraction)
leaving_from cs s k [] = None
leaving_from cs s k (xs ∷ rows) =
    if less (whole (pos 0)) (at xs s) then better k (ratios cs s xs) (leaving_from cs s (suc k) rows)
    else leaving_from cs s (suc k) rows

-- the row that leaves when column s enters, with its list; None where no entry of the column is positive
abbrev pub leaving : ProgramValue → Tableau → ℕ → Option (ℕ × List Fraction)
leaving a t s = leaving_from (key_columns a) s 0 t.rows
