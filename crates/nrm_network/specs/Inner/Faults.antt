-- What the fault of a row says, and the fault of a file by it.
use Rattle.std.specs.Prelude.{ℕ, ◌≡◌, ⊤, List, Some}
use Rattle.nrm_network.specs.Rows.{Row}
use Rattle.nrm_network.specs.Checks.{why_refused}
use Rattle.nrm_network.specs.declared.fault.NetFault.{NetFault}
use Rattle.nrm_network.specs.declared.fault.NetFault.TheVariants as fault
use Rattle.nrm_network.specs.declared.fault.RowRefusal.{RowRefusal}
use Rattle.nrm_network.specs.declared.fault.RowRefusal.TheVariants as of_row

-- the row is refused against those before it, and why; running out of memory is free
abbrev pub Refuses : List Row → Row → RowRefusal → Type 0
Refuses before row (of_row.Refused cause) = why_refused before row ≡ Some cause
Refuses before row of_row.NoMemory = ⊤

-- the file is refused at the row, or memory ran out
abbrev pub fault_at : ℕ → RowRefusal → NetFault
fault_at row (of_row.Refused why) = fault.Refused row why
fault_at row of_row.NoMemory = fault.NoMemory
