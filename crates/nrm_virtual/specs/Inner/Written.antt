-- Lists in which some places are written, one after the other.
use Rattle.std.specs.Prelude.{ℕ, ◌≡◌, ◌+◌, ◌*◌, ◌<◌, ◌≤◌, Bool, List, [], ◌∷◌, if◌then◌else◌, length, slice_index, slice_set}

-- for each number of a list what f gives for it, at the place so many behind the first
abbrev pub written : ℕ → (ℕ → ℕ) → List ℕ → List ℕ → List ℕ
written first f [] places = places
written first f (j ∷ js) places = written first f js (slice_set places (first + j) (f j))

-- so many rows, one behind the other, each with as many places: in each of the first rows stands what f gives where a test passes, and 0
-- elsewhere, and in the other rows 0
pub record AreWritten (test : ℕ → ℕ → Bool) (f : ℕ → ℕ → ℕ) (rows wide first : ℕ) (places : List ℕ) : Type 0 where
  pub long : length places ≡ rows * wide
  pub done : (i j : ℕ) → i < first → j < wide → slice_index places (i * wide + j) ≡ (if test i j then f i j else 0)
  pub rest : (n : ℕ) → first * wide ≤ n → slice_index places n ≡ 0
