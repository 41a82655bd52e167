-- What contracts see of a tableau: its program and its table, which is on the program's path.
use Rattle.std.specs.Prelude.{ℕ}
use Rattle.nrm_lp.specs.Program.{ProgramValue}
use Rattle.nrm_lp.specs.Limits.{IsLimited}
use Rattle.nrm_lp.specs.Tableau.{Tableau}
use Rattle.nrm_lp.specs.Overflow.{Reaches}
use Rattle.nrm_fraction.specs.Large.{size_limit}

-- a table of a program
pub record TableauValue : Type 0 where
  pub program : ProgramValue
  pub table : Tableau

-- the program is within the limits, the table is on its path, and no pivot up to it was Large
pub record IsOnPath (s : TableauValue) : Type 0 where
  pub limits : IsLimited s.program
  pub pivots : ℕ
  pub reached : Reaches size_limit s.program pivots s.table
