-- Walks over a set of rows: the first row that is there, the last, and none.
use Rattle.std.specs.Prelude.{ℕ, ◌≡◌, ◌+◌, ◌*◌, ◌<◌, ◌≤◌, List, length}
use Rattle.std.specs.Int.{bit_at}
use Rattle.nrm_tableau.specs.RowSets.{row_bit}

-- no row from this one on and before the end is there
abbrev pub HasNone : List ℕ → ℕ → ℕ → Type 0
HasNone words from end = (r : ℕ) → from ≤ r → r < end → row_bit words r ≡ 0

-- the first of them that is there
pub record IsFirst (words : List ℕ) (from : ℕ) (end : ℕ) (row : ℕ) : Type 0 where
  pub not_below : from ≤ row
  pub before : row < end
  pub there : row_bit words row ≡ 1
  pub none : HasNone words from row

-- the last before the end that is there
pub record IsLast (words : List ℕ) (end : ℕ) (row : ℕ) : Type 0 where
  pub before : row < end
  pub there : row_bit words row ≡ 1
  pub none : HasNone words (row + 1) end

-- a walk upwards that has come to a row: what is left of the word at its place has the rows of this word from that row on
pub record IsUpwards (words : List ℕ) (place rest from : ℕ) : Type 0 where
  pub few : length words ≤ 10
  pub place_within : place ≤ 1024
  pub here : 64 * place ≤ from
  pub near : from ≤ 64 * (place + 1)
  pub left : (k : ℕ) → k < 64 → from ≤ 64 * place + k → bit_at rest k ≡ row_bit words (64 * place + k)
  pub done : (k : ℕ) → 64 * place + k < from → bit_at rest k ≡ 0

-- a walk downwards that has come to a row: what is left of the word at its place has the rows of this word before that row
pub record IsDownwards (words : List ℕ) (place rest end : ℕ) : Type 0 where
  pub few : length words ≤ 10
  pub within : place ≤ length words
  pub here : 64 * place ≤ end
  pub near : end ≤ 64 * (place + 1)
  pub left : (k : ℕ) → 64 * place + k < end → bit_at rest k ≡ row_bit words (64 * place + k)
  pub done : (k : ℕ) → k < 64 → end ≤ 64 * place + k → bit_at rest k ≡ 0
