-- What is true of every tableau on the path of a program.
use Rattle.std.specs.Prelude.{ℕ, zero, suc, ◌<◌, ◌≡◌, ◌≢◌, pos, List, [], map, length, get_or, Some, ◌==◌, slice_index}
use Rattle.nrm_fraction.specs.Fraction.{Fraction, ◌+ᶠ◌, ◌*ᶠ◌, ◌<ᶠ◌, whole}
use Rattle.nrm_fraction.specs.Lex.{LexBelow, LexPositive}
use Rattle.nrm_fraction.specs.Rows.{at, ratios}
use Rattle.nrm_lp.specs.Program.{ProgramValue}
use Rattle.nrm_lp.specs.Tableau.{Tableau, first_tableau, key_columns, leaving, one_if, right_side, row_count, slack}
use Rattle.nrm_lp.specs.Path.{after}

-- the entry of constraint row i in column c
abbrev pub entry : Tableau → ℕ → ℕ → Fraction
entry t i c = at (get_or t.rows i []) c

-- the basic column of constraint row k
abbrev pub basic : Tableau → ℕ → ℕ
basic t k = slice_index t.basis k

-- the sum of f over the numbers below n
abbrev pub total : ℕ → (ℕ → Fraction) → Fraction
total zero f = whole (pos 0)
total (suc n) f = total n f +ᶠ f n

-- the list by which row i is compared when column s enters
abbrev pub key : ProgramValue → Tableau → ℕ → ℕ → List Fraction
key a t s i = ratios (key_columns a) s (get_or t.rows i [])

-- row r leaves when column s enters: the rule answers it, its entry is positive, and the list of every other row with a
-- positive entry is greater
pub record Leaves (a : ProgramValue) (t : Tableau) (s r : ℕ) : Type 0 where
  pub within : r < row_count a
  pub answer : leaving a t s ≡ Some (r, key a t s r)
  pub positive : whole (pos 0) <ᶠ entry t r s
  pub least : (i : ℕ) → i < row_count a → i ≢ r → whole (pos 0) <ᶠ entry t i s → LexBelow (key a t s r) (key a t s i)

pub record HasPathFacts (a : ProgramValue) (t : Tableau) : Type 0 where
  -- a row of full width for each leg and each bound, and a basic column before the right side for each of them
  pub rows : length t.rows ≡ row_count a
  pub widths : (i : ℕ) → i < row_count a → length (get_or t.rows i []) ≡ suc (right_side a)
  pub value_width : length t.value ≡ suc (right_side a)
  pub basics : length t.basis ≡ row_count a
  pub before_end : (k : ℕ) → k < row_count a → basic t k < right_side a
  -- basic columns are unit columns, and 0 in the value row
  pub unit_columns : (i k : ℕ) → i < row_count a → k < row_count a → entry t i (basic t k) ≡ one_if (i == k)
  pub value_noughts : (k : ℕ) → k < row_count a → at t.value (basic t k) ≡ whole (pos 0)
  -- every constraint row is above 0 in the order of the rule
  pub positive : (i : ℕ) → i < row_count a → LexPositive (map (λ c. entry t i c) (key_columns a))
  -- every row is a combination of the first rows, by its own entries in the slack columns
  pub from_first : (i c : ℕ) → i < row_count a
      → entry t i c ≡ total (row_count a) (λ k. entry t i (slack a k) *ᶠ entry (first_tableau a) k c)
  pub value_from_first : (c : ℕ)
      → at t.value c ≡ at (first_tableau a).value c +ᶠ total (row_count a) (λ k. at t.value (slack a k) *ᶠ entry (first_tableau a) k c)
  -- and every first row is a combination of these, by its entries in the basic columns
  pub to_first : (i c : ℕ) → i < row_count a
      → entry (first_tableau a) i c ≡ total (row_count a) (λ k. entry (first_tableau a) i (basic t k) *ᶠ entry t k c)
  -- a row leaves whichever column enters
  pub leaves : (s : ℕ) → s < right_side a → (r : ℕ) × Leaves a t s r

abbrev pub PathHasFacts : Type 0
PathHasFacts = (a : ProgramValue) (n : ℕ) (t : Tableau) → after a n ≡ Some t → HasPathFacts a t
