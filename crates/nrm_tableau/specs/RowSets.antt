-- Sets of rows, a bit for each, and what those of a tableau say of its columns.
use Rattle.std.specs.Prelude.{ℕ, ◌≡◌, ◌<◌, ◌/◌, ◌%◌, pos, List, [], length, get_or, slice_index}
use Rattle.std.specs.Int.{bit_at}
use Rattle.nrm_fraction.specs.Fraction.{Fraction, whole}
use Rattle.nrm_fraction.specs.Rows.{at}
use Rattle.nrm_lp.specs.Tableau.{right_side}
use Rattle.nrm_tableau.specs.Value.{TableauValue, IsOnPath}

-- the bit of row r
abbrev pub row_bit : List ℕ → ℕ → ℕ
row_bit words r = bit_at (slice_index words (r / 64)) (r % 64)

-- among the first n rows, each that isn't in the set has a 0
abbrev pub IsNoughtBut : List ℕ → ℕ → (ℕ → Fraction) → Type 0
IsNoughtBut words n entry = (r : ℕ) → r < n → row_bit words r ≡ 0 → entry r ≡ whole (pos 0)

-- a set for each of n columns: it may have too many rows, and never too few
pub record Covers (n : ℕ) (sets : List (List ℕ)) (rows : List (List Fraction)) : Type 0 where
  pub count : length sets ≡ n
  pub noughts : (c : ℕ) → c < n → IsNoughtBut (get_or sets c []) (length rows) (λ r. at (get_or rows r []) c)

-- what a tableau keeps: it is on its program's path, and its sets are those of its rows
pub record IsTableau (s : TableauValue) (sets : List (List ℕ)) : Type 0 where
  pub path : IsOnPath s
  pub covers : Covers (right_side s.program) sets s.table.rows
