-- The fault of a row that was to be made, as the fault of the path.
use Rattle.std.specs.Prelude.{ℕ}
use Rattle.nrm_fraction.specs.declared.fault.RowFault.{RowFault}
use Rattle.nrm_fraction.specs.declared.fault.RowFault.TheVariants as row
use Rattle.nrm_simplex.specs.declared.fault.SolveFault.{SolveFault}
use Rattle.nrm_simplex.specs.declared.fault.SolveFault.TheVariants as fault

abbrev pub fault_after : ℕ → RowFault → SolveFault
fault_after pivots (row.Large number) = fault.Overflow pivots number
fault_after pivots row.NoMemory = fault.NoMemory
