-- Rows as lists of fractions: an entry, the row divided by one, and a row minus a multiple of another.
use Rattle.std.specs.Prelude.{ℕ, ◌-◌, ◌==◌, ℤ, pos, List, [], ◌∷◌, map, get_or, if◌then◌else◌}
use Rattle.std.specs.List.{range_with_len}
use Rattle.nrm_fraction.specs.Fraction.{Fraction, ◌*ᶠ◌, ◌-ᶠ◌, ◌/ᶠ◌, whole}

-- the entry of a row at column c, and 0 past its end
abbrev pub at : List Fraction → ℕ → Fraction
at row c = get_or row c (whole (pos 0))

-- the number that a list of columns and numbers gives for a column, and 0 where it gives none
abbrev pub number_at : List (ℕ × ℤ) → ℕ → ℤ
number_at [] c = pos 0
number_at ((col, number) ∷ more) c = if col == c then number else number_at more c

-- the row of this width with whole numbers at these columns, and 0 elsewhere
abbrev pub row_of : ℕ → List (ℕ × ℤ) → List Fraction
row_of width entries = map (λ c. whole (number_at entries c)) (range_with_len 0 width)

-- the row divided by its entry at column s
abbrev pub unit_row : ℕ → List Fraction → List Fraction
unit_row s xs = map (λ x. x /ᶠ at xs s) xs

-- xs minus a times us; a row that ends goes on with 0
abbrev pub minus_times : Fraction → List Fraction → List Fraction → List Fraction
minus_times a [] xs = xs
minus_times a (u ∷ us) [] = (whole (pos 0) -ᶠ a *ᶠ u) ∷ minus_times a us []
minus_times a (u ∷ us) (x ∷ xs) = (x -ᶠ a *ᶠ u) ∷ minus_times a us xs

-- the row minus its entry at s times the unit row
abbrev pub combine : ℕ → List Fraction → List Fraction → List Fraction
combine s us xs = minus_times (at xs s) us xs

-- the columns that decide which row leaves: the last one of a row, which is the right side, then the columns from the
-- first slack on to the one before it
abbrev pub ratio_columns : ℕ → ℕ → List ℕ
ratio_columns from width = (width - 1) ∷ range_with_len from (width - 1 - from)

-- a row's numbers at these columns, divided by its entry at s
abbrev pub ratios : List ℕ → ℕ → List Fraction → List Fraction
ratios cs s xs = map (λ c. at xs c /ᶠ at xs s) cs
