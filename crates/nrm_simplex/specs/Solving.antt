-- What `solve` answers: the certificate of the end of the program's path, or how far the path went before a number was too large.
use Rattle.std.specs.Prelude.{ℕ, ◌≡◌, ◌^◌, ◌-◌, min}
use Rattle.nrm_lp.specs.declared.certificate.Certificate.{Certificate}
use Rattle.nrm_lp.specs.Program.{ProgramValue}
use Rattle.nrm_lp.specs.Tableau.{Tableau}
use Rattle.nrm_lp.specs.Closing.{certificate}
use Rattle.nrm_lp.specs.Overflow.{Closes, Overflows}
use Rattle.nrm_simplex.specs.declared.fault.SolveFault.{SolveFault}
use Rattle.nrm_fraction.specs.Large.{size_limit}
use Rattle.nrm_simplex.specs.declared.fault.SolveFault.TheVariants as fault

-- the certificate of the program's closing: its path ends, and nothing on it was Large
abbrev pub IsClosing : ProgramValue → Certificate → Type 0
IsClosing a made = (n : ℕ) × (t : Tableau) × Closes size_limit a n t × (made ≡ certificate a t)

-- why there is none: the program is Large after so many finished pivots, and 4,294,967,295 stands for more. If memory ran out, it says nothing
abbrev pub IsSolveFault : ProgramValue → SolveFault → Type 0
IsSolveFault a (fault.Overflow pivots number) = (n : ℕ) × Overflows size_limit a n number × (pivots ≡ min n (2 ^ 32 - 1))
IsSolveFault a fault.NoMemory = Unit {0}
