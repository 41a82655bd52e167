-- The path of the simplex method on a program: the first tableau, and after each the next one while a column enters.
use Rattle.std.specs.Prelude.{ℕ, zero, suc, ◌≡◌, List, Option, Some, None}
use Rattle.nrm_fraction.specs.Fraction.{Fraction}
use Rattle.nrm_lp.specs.Program.{ProgramValue}
use Rattle.nrm_lp.specs.Tableau.{Tableau, first_tableau, entering, leaving, pivot}

-- the row that the leaving rule found. On a path there is one whichever column enters, a product's or a slack's (law
-- `path_has_facts`), since each column has a 1 in some first row and no first row has an entry below 0. That holds of
-- every record, also of one that is no program: the 0, which stands for no row, is never met
abbrev pub row_number : Option (ℕ × List Fraction) → ℕ
row_number None = 0
row_number (Some found) = found.0

abbrev pub next_at : ProgramValue → Tableau → Option ℕ → Option Tableau
next_at a t None = None
next_at a t (Some s) = Some (pivot t (row_number (leaving a t s)) s)

-- the next tableau, and None where no column enters
abbrev pub next : ProgramValue → Tableau → Option Tableau
next a t = next_at a t (entering t)

abbrev pub next_of : ProgramValue → Option Tableau → Option Tableau
next_of a None = None
next_of a (Some t) = next a t

-- the tableau after n pivots, and None where the path has fewer
abbrev pub after : ProgramValue → ℕ → Option Tableau
after a zero = Some (first_tableau a)
after a (suc n) = next_of a (after a n)

-- the last tableau of a path that ends
abbrev pub IsLast : ProgramValue → Tableau → Type 0
IsLast a t = (n : ℕ) × (after a n ≡ Some t) × (entering t ≡ None)
