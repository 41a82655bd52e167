-- What is put in place of an answer: a line with the status that goes with it.
use Rattle.std.specs.Prelude.{ℕ, ◌≡◌, ◌⊎◌, List, Option, Some, None, Result, Ok, Err}
use Rattle.std.specs.Io.KnownBytes.{Appends, Keeps}
use Rattle.nrm_edge.specs.Causes.{Rose}
use Rattle.nrm_edge.specs.Pieces.{AppendsCut}
use Rattle.nrm_model.specs.Network.{NetworkValue}
use Rattle.nrm_simplex.specs.declared.fault.SolveFault.{SolveFault}
use Rattle.nrm_simplex.specs.declared.fault.SolveFault.TheVariants as fault
use Rattle.nrm_common_cli.specs.NetworkFile.{reason_line}
use Rattle.nrm_common_cli.specs.Words.{overflow_line}
use Rattle.nrm_common_cli.specs.declared.network_file.NoNetwork.{NoNetwork}
use Rattle.nrm_common_cli.specs.declared.network_file.NoNetwork.TheVariants as none
use Rattle.nrm_common_cli.specs.declared.put.Statuses.{Statuses}

-- a line is put with a status; or it is cut, and the status is that of a failed output
abbrev pub PutsLine : {S : Type 0} → Statuses S → List ℕ → S → Option (List ℕ) → Option (List ℕ) → ℕ → ℕ → S → Type 0
PutsLine statuses line told held held' before now result =
    ((result ≡ told) × Appends held held' line × (now ≡ before))
    ⊎ ((result ≡ statuses.write_fault) × AppendsCut held held' line × Rose before now)

-- a line is put with a status; or memory ran out and there is none
abbrev pub PutsIfSome : {S : Type 0} → Statuses S → Option (List ℕ) → S → Option (List ℕ) → Option (List ℕ) → ℕ → ℕ → S → Type 0
PutsIfSome statuses (Some line) told held held' before now result = PutsLine statuses line told held held' before now result
PutsIfSome statuses None told held held' before now result = (result ≡ statuses.no_memory) × Keeps held held' × (now ≡ before)

-- the status that goes with the line of a reason
abbrev pub status_for : {S : Type 0} → Statuses S → NoNetwork → S
status_for statuses none.Absent = statuses.refused
status_for statuses (none.Refused row cause) = statuses.refused
status_for statuses none.Fault = statuses.file_fault
status_for statuses none.NoMemory = statuses.no_memory

-- the line that says that nothing is planned, and none if memory ran out
abbrev pub unplanned_line : SolveFault → Option (List ℕ)
unplanned_line (fault.Overflow pivots number) = Some (overflow_line pivots number)
unplanned_line fault.NoMemory = None

-- what is put where there is no network, and where nothing is planned
abbrev pub PutsReason : {S : Type 0} → Statuses S → NoNetwork → Option (List ℕ) → Option (List ℕ) → ℕ → ℕ → S → Type 0
PutsReason statuses reason held held' before now result =
    PutsIfSome statuses (reason_line reason) (status_for statuses reason) held held' before now result

abbrev pub PutsUnplanned : {S : Type 0} → Statuses S → SolveFault → Option (List ℕ) → Option (List ℕ) → ℕ → ℕ → S → Type 0
PutsUnplanned statuses why held held' before now result =
    PutsIfSome statuses (unplanned_line why) statuses.overflow held held' before now result

-- there was no network, or nothing was planned, and what says why was put
abbrev pub TellsNoNetwork : {S : Type 0} → Statuses S → Result NetworkValue NoNetwork → Option (List ℕ) → Option (List ℕ) → ℕ → ℕ → S → Type 0
TellsNoNetwork statuses (Ok net) held held' before now result = ⊥
TellsNoNetwork statuses (Err reason) held held' before now result = PutsReason statuses reason held held' before now result

abbrev pub TellsUnplanned : {S T : Type 0} → Statuses S → Result T SolveFault → Option (List ℕ) → Option (List ℕ) → ℕ → ℕ → S → Type 0
TellsUnplanned statuses (Ok made) held held' before now result = ⊥
TellsUnplanned statuses (Err why) held held' before now result = PutsUnplanned statuses why held held' before now result
