-- The entries of a row that is made column by column.
use Rattle.std.specs.Prelude.{ℕ, ◌≡◌, ◌<◌, ℤ, List}
use Rattle.nrm_fraction.specs.Fraction.{Fraction, whole}
use Rattle.nrm_fraction.specs.Rows.{number_at}
use Rattle.nrm_row.specs.Numbers.{AreEntries}

-- columns that rise, all below n, with small numbers: those of the function f at the columns below n, which is 0 at a column
-- without an entry
pub record IsFilled (n : ℕ) (f : ℕ → Fraction) (entries : List (ℕ × ℤ)) : Type 0 where
  pub columns : AreEntries n entries
  pub numbers : (c : ℕ) → c < n → whole (number_at entries c) ≡ f c
