-- When a pivot or a closing is Large, which is when one of its numbers reaches a limit, and with which number.
use Rattle.std.specs.Prelude.{ℕ, zero, suc, ◌<◌, ◌≡◌, ◌⊎◌, ℤ, List, [], ◌∷◌, ◌++◌, get_or, Option, Some, None}
use Rattle.nrm_fraction.specs.Fraction.{Fraction}
use Rattle.nrm_lp.specs.Program.{ProgramValue}
use Rattle.nrm_fraction.specs.Large.{common, running, numerators, first_reaching, first_large}
use Rattle.nrm_lp.specs.Tableau.{Tableau, entering, leaving, pivot}
use Rattle.nrm_lp.specs.Path.{after, row_number}
use Rattle.nrm_lp.specs.Closing.{product_values}

-- the rows but the one with number r
abbrev pub rows_but : ℕ → List (List Fraction) → List (List Fraction)
rows_but r [] = []
rows_but zero (row ∷ rows) = rows
rows_but (suc r) (row ∷ rows) = row ∷ rows_but r rows

-- the number of the first Large row of the tableau that a pivot in row r made: that row, the other constraint rows by
-- number, the value row
abbrev pub made_large : ℕ → ℕ → Tableau → Option ℤ
made_large limit r t = first_large limit (get_or t.rows r [] ∷ (rows_but r t.rows ++ t.value ∷ []))

-- the same of the pivot that follows a tableau, None where no column enters
abbrev pub large_at : ℕ → ProgramValue → Tableau → Option ℕ → Option ℤ
large_at limit a t None = None
large_at limit a t (Some s) = made_large limit (row_number (leaving a t s)) (pivot t (row_number (leaving a t s)) s)

abbrev pub pivot_large : ℕ → ProgramValue → Tableau → Option ℤ
pivot_large limit a t = large_at limit a t (entering t)

-- the number of a Large closing: the running denominators of the allocation, then its numbers over the last of them
abbrev pub closing_large : ℕ → ProgramValue → Tableau → Option ℤ
closing_large limit a t =
    first_reaching limit (running 1 (product_values a t) ++ numerators (common (product_values a t)) (product_values a t))

-- the first n pivots are not Large, and make this tableau
pub record Reaches (limit : ℕ) (a : ProgramValue) (n : ℕ) (t : Tableau) : Type 0 where
  pub path : after a n ≡ Some t
  pub small : (m : ℕ) (u : Tableau) → m < n → after a m ≡ Some u → pivot_large limit a u ≡ None

-- after n finished pivots the next one is Large, or the path has ended and its closing is Large
abbrev pub Overflows : ℕ → ProgramValue → ℕ → ℤ → Type 0
Overflows limit a n number =
    (t : Tableau) × Reaches limit a n t
    × ((pivot_large limit a t ≡ Some number) ⊎ ((entering t ≡ None) × (closing_large limit a t ≡ Some number)))

-- the path ends in this tableau after n pivots, and neither it nor its closing is Large
abbrev pub Closes : ℕ → ProgramValue → ℕ → Tableau → Type 0
Closes limit a n t = Reaches limit a n t × (entering t ≡ None) × (closing_large limit a t ≡ None)
