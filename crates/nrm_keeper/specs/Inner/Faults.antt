-- Why a statement that was refused gives no answer, and what a keeper answers to one that wrote.
use Rattle.std.specs.Prelude.{ℕ, ◌==◌, if◌then◌else◌, Result, Ok, Err}
use Rattle.sqlite.specs.declared.error.Error.{Error}
use Rattle.sqlite.specs.declared.error.Error.TheVariants.{SqliteFailure}
use Rattle.sqlite.specs.declared.error.ErrorCode.TheVariants as code
use Rattle.nrm_keeper.specs.declared.row.KeepFault.{KeepFault}
use Rattle.nrm_keeper.specs.declared.row.KeepFault.TheVariants.{Failed, NoMemory}

-- that memory ran out is an answer of its own, and every other cause is that the keeper failed
abbrev pub fault_of : Error → KeepFault
fault_of (SqliteFailure code.OutOfMemory) = NoMemory
fault_of _ = Failed

-- a row was added if the statement was done
abbrev pub added_by : Result ℕ Error → Result (Unit {0}) KeepFault
added_by (Ok count) = Ok tt
added_by (Err error) = Err (fault_of error)

-- a row was dropped if the statement was done and took a row away
abbrev pub dropped_by : Result ℕ Error → Result (Unit {0}) KeepFault
dropped_by (Ok count) = if count == 0 then Err Failed else Ok tt
dropped_by (Err error) = Err (fault_of error)
