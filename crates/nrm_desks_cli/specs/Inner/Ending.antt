-- How the end of serving becomes a status.
use Rattle.std.specs.Prelude.{ℕ, ◌≡◌, List, Option}
use Rattle.nrm_frames.specs.Outgoing.{differs, no_row, output_text}
use Rattle.nrm_hub.specs.declared.again.AgainFault.{AgainFault}
use Rattle.nrm_hub.specs.declared.again.AgainFault.TheVariants as fault
use Rattle.nrm_common_cli.specs.Puts.{PutsLine}
use Rattle.nrm_desks_cli.specs.declared.serving.ServeEnd.{ServeEnd}
use Rattle.nrm_desks_cli.specs.declared.serving.ServeEnd.TheVariants as end
use Rattle.nrm_desks_cli.specs.declared.status.DesksStatus.{DesksStatus}
use Rattle.nrm_desks_cli.specs.declared.status.DesksStatus.TheVariants as status
use Rattle.nrm_desks_cli.specs.declared.status.TheConstants.{STATUSES}

-- nothing is put with a status
abbrev pub PutsNothing : DesksStatus → Option (List ℕ) → Option (List ℕ) → ℕ → ℕ → DesksStatus → Type 0
PutsNothing told held held' before now result = (result ≡ told) × (held' ≡ held) × (now ≡ before)

-- the frame that says at which row it stopped is put, or memory ran out
abbrev pub PutsFault : AgainFault → Option (List ℕ) → Option (List ℕ) → ℕ → ℕ → DesksStatus → Type 0
PutsFault (fault.NoRow row) held held' before now result =
    PutsLine STATUSES (output_text (no_row row)) status.NoRow held held' before now result
PutsFault (fault.Differs row) held held' before now result =
    PutsLine STATUSES (output_text (differs row)) status.Differs held held' before now result
PutsFault fault.NoMemory held held' before now result = PutsNothing status.NoMemory held held' before now result

abbrev pub EndsServing : ServeEnd → Option (List ℕ) → Option (List ℕ) → ℕ → ℕ → DesksStatus → Type 0
EndsServing end.Done held held' before now result = PutsNothing status.Done held held' before now result
EndsServing end.ReadFault held held' before now result = PutsNothing status.ReadFault held held' before now result
EndsServing end.WriteFault held held' before now result = PutsNothing status.WriteFault held held' before now result
EndsServing end.TooLong held held' before now result = PutsNothing status.TooLong held held' before now result
EndsServing end.NoFrame held held' before now result = PutsNothing status.NoFrame held held' before now result
EndsServing (end.NotAgain why) held held' before now result = PutsFault why held held' before now result
