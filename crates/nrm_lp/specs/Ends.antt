-- Every path ends, and in one place only.
use Rattle.std.specs.Prelude.{ℕ, ◌≡◌, ◌⊎◌, ◌<◌, ℤ}
use Rattle.nrm_lp.specs.Program.{ProgramValue}
use Rattle.nrm_lp.specs.Tableau.{Tableau}
use Rattle.nrm_lp.specs.Overflow.{Closes, Overflows}

-- the path of a program ends in a closing that isn't Large, or a pivot or the closing is Large
abbrev pub EveryPathEnds : Type 0
EveryPathEnds = (limit : ℕ) → 1 < limit → (a : ProgramValue)
    → ((n : ℕ) × (t : Tableau) × Closes limit a n t) ⊎ ((n : ℕ) × (number : ℤ) × Overflows limit a n number)

-- after one number of pivots, in one tableau, at one number, and not in both ways
pub record EndsOnce (limit : ℕ) (a : ProgramValue) : Type 0 where
  pub closing : (n m : ℕ) (t u : Tableau) → Closes limit a n t → Closes limit a m u → (n ≡ m) × (t ≡ u)
  pub overflow : (n m : ℕ) (x y : ℤ) → Overflows limit a n x → Overflows limit a m y → (n ≡ m) × (x ≡ y)
  pub apart : (n m : ℕ) (t : Tableau) (x : ℤ) → Closes limit a n t → Overflows limit a m x → ⊥

abbrev pub PathsEndOnce : Type 0
PathsEndOnce = (limit : ℕ) (a : ProgramValue) → EndsOnce limit a
