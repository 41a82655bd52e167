-- What the parts of the top call promise one another.
use Rattle.std.specs.Prelude.{ℕ, List, Option, Some, None}
use Rattle.nrm_control.specs.Standing.{ControlValue}
use Rattle.nrm_session.specs.declared.serving.End.{End}
use Rattle.nrm_session.specs.declared.serving.End.TheVariants as end
use Rattle.nrm_keeper.specs.declared.row.KeepFault.{KeepFault}
use Rattle.nrm_keeper.specs.declared.row.KeepFault.TheVariants as keep
use Rattle.nrm_kept_cli.specs.Jobs.{KeptJob, store_fault_line}
use Rattle.nrm_kept_cli.specs.Rows.{Loaded}
use Rattle.nrm_kept_cli.specs.declared.top.Asked.{Asked}
use Rattle.nrm_kept_cli.specs.declared.status.KeptStatus.{KeptStatus}
use Rattle.nrm_kept_cli.specs.declared.status.KeptStatus.TheVariants as status

-- the line that says that the store failed, and none if memory ran out
abbrev pub unlisted_line : KeepFault → Option (List ℕ)
unlisted_line keep.Failed = Some store_fault_line
unlisted_line keep.NoMemory = None

-- the status that goes with the end of a session
abbrev pub status_at : End → KeptStatus
status_at end.Done = status.Done
status_at end.ReadFault = status.ReadFault
status_at end.WriteFault = status.WriteFault
status_at end.TooLong = status.TooLong

-- a job as the code holds it
abbrev pub job_in : Asked → KeptJob
job_in asked = record { mode = asked.mode; file = asked.file.now }

-- what a controller has
abbrev pub loaded_in : ControlValue → Loaded
loaded_in control = record { bookings = control.bookings; next = control.next }
