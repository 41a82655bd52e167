-- How the program that keeps its bookings ends: what each status says of the words, the files, the store, the stream and what was written.
use Rattle.std.specs.Prelude.{ℕ, ℤ, ◌≡◌, ◌≢◌, ◌≤◌, ◌⊎◌, List, [], length, Option, Some, None, Ok, Err}
use Rattle.nrm_edge.specs.Causes.{Rose}
use Rattle.nrm_edge.specs.Fetch.{Folder}
use Rattle.nrm_model.specs.Network.{NetworkValue}
use Rattle.nrm_model.specs.declared.limits.TheConstants.{MOST_STREAM_BYTES}
use Rattle.nrm_plan.specs.Plans.{IsOpeningPlan, OpeningOverflows, PlanValue}
use Rattle.nrm_control.specs.State.{SeatState}
use Rattle.nrm_stream.specs.Commands.{commands_of}
use Rattle.nrm_stream.specs.declared.command.Command.{Command}
use Rattle.nrm_common_cli.specs.Outside.{Goes, Outside, OnFile, outside, FilesFailed, SourceFailed, SinkFailed, NothingFailed, Wrote, WroteCut}
use Rattle.nrm_common_cli.specs.Outside.{WroteNothing, LeftStream}
use Rattle.nrm_common_cli.specs.Refusals.{Refusal, network_under, refusal_line, file_fault_line}
use Rattle.nrm_common_cli.specs.Words.{overflow_line, told_pivots}
use Rattle.nrm_session.specs.Serving.{ServesBy, Streams}
use Rattle.nrm_session.specs.declared.serving.End.{End}
use Rattle.nrm_session.specs.declared.serving.End.TheVariants as end
use Rattle.nrm_keeper.specs.declared.row.KeptRow.{KeptRow}
use Rattle.nrm_keeper.specs.Rows.{Lists}
use Rattle.nrm_kept_cli.specs.Jobs.{KeptJob, store_fault_line, store_refused_line, usage_line}
use Rattle.nrm_kept_cli.specs.Rows.{AreRows, LoadAgain, Loaded, load, loaded_state}
use Rattle.nrm_kept_cli.specs.Run.{KeptWrites, KeptWritesCut}
use Rattle.nrm_kept_cli.specs.declared.status.KeptStatus.{KeptStatus}
use Rattle.nrm_kept_cli.specs.declared.status.KeptStatus.TheVariants as status

-- what stands outside, and the store: its rows, if they are told, and how often it has failed
pub record KeptOutside : Type 0 where
  pub at : Outside
  pub rows : Option (List KeptRow)
  pub store_faults : ℕ

-- the outside that files, a source, a sink and a keeper show by what each tells of itself
abbrev pub kept_outside : {F S K P : Type 0} → (F → Option Folder) → (F → ℕ) → (S → Option (List ℕ)) → (S → ℕ)
    → (K → Option (List ℕ)) → (K → ℕ) → (P → Option (List KeptRow)) → (P → ℕ) → F → S → K → P → KeptOutside
kept_outside contents file_faults coming source_faults held sink_faults rows store_faults files source sink keeper = record {
  at = outside contents file_faults coming source_faults held sink_faults files source sink;
  rows = rows keeper;
  store_faults = store_faults keeper;
}

-- the store failed once in the call; or its count is as it was
abbrev pub StoreFailed : KeptOutside → KeptOutside → Type 0
StoreFailed before after = Rose before.store_faults after.store_faults

abbrev pub StoreDidNotFail : KeptOutside → KeptOutside → Type 0
StoreDidNotFail before after = after.store_faults ≡ before.store_faults

-- the rows that were told are told, and are the same
abbrev pub RowsStay : KeptOutside → KeptOutside → Type 0
RowsStay before after = (rows : List KeptRow) → before.rows ≡ Some rows → after.rows ≡ Some rows

-- if the files are told, the file of a job gives this network
abbrev pub Opens : KeptJob → KeptOutside → NetworkValue → Type 0
Opens job before net = OnFile before.at.files job.file (λ contents. network_under contents ≡ Ok net)

-- the words ask for a job whose file gives this network, and this is its opening plan
pub record Begins (asked : Option KeptJob) (before : KeptOutside) : Type 0 where
  pub job : KeptJob
  pub asks : asked ≡ Some job
  pub net : NetworkValue
  pub opens : Opens job before net
  pub plan : PlanValue
  pub planned : IsOpeningPlan net job.mode plan

-- and these are the rows of the store, if they are told, and they load
pub record Starts (asked : Option KeptJob) (before : KeptOutside) : Type 0 where
  pub begins : Begins asked before
  pub rows : List KeptRow
  pub listed : Lists rows before.rows
  pub loaded : Loaded
  pub loads : load begins.net rows ≡ Ok loaded

-- the source and the sink of what stands outside
abbrev pub streams_at : Outside → Streams
streams_at at = record { coming = at.coming; held = at.held; source_faults = at.source_faults; sink_faults = at.sink_faults }

-- What a session leaves behind: the rows, if they were told, are told and are just those of the bookings that stand; and from these rows
-- a later run loads just these bookings.
pub record Leaves (net : NetworkValue) (before after : KeptOutside) (s : SeatState) : Type 0 where
  pub rows : (rows : List KeptRow) → before.rows ≡ Some rows → AreRows net s.bookings after.rows
  pub again : LoadAgain net s.bookings

-- the output of a run from the loaded state of the rows, and what it leaves; and of a run that was cut in a reply
abbrev pub RunsOn : (asked : Option KeptJob) (before after : KeptOutside) → Starts asked before → List Command → List ℕ → Type 0
RunsOn asked before after starts commands output =
    (last : SeatState) × Leaves starts.begins.net before after last
    × KeptWrites starts.begins.net (loaded_state starts.begins.plan starts.loaded) commands output last before.store_faults after.store_faults

abbrev pub RunsOnCut : (asked : Option KeptJob) (before after : KeptOutside) → Starts asked before → List Command → List ℕ → Type 0
RunsOnCut asked before after starts commands output =
    (last : SeatState) × Leaves starts.begins.net before after last
    × KeptWritesCut starts.begins.net (loaded_state starts.begins.plan starts.loaded) commands output last
    before.store_faults after.store_faults

-- a session was started and ended so
pub record Ran (asked : Option KeptJob) (before after : KeptOutside) (e : End) : Type 0 where
  pub starts : Starts asked before
  pub serves : ServesBy (RunsOn asked before after starts) (RunsOnCut asked before after starts) (streams_at before.at) (streams_at after.at)
      MOST_STREAM_BYTES e

-- a line, the status that goes with it, and why it is told
pub data Tells (asked : Option KeptJob) (before after : KeptOutside) : KeptStatus → List ℕ → Type 0 where
  usage : asked ≡ None → Tells asked before after status.Usage usage_line
  refused : (job : KeptJob) (refusal : Refusal) → asked ≡ Some job
      → OnFile before.at.files job.file (λ contents. network_under contents ≡ Err refusal)
      → Tells asked before after status.Refused (refusal_line refusal)
  file_fault : (job : KeptJob) → asked ≡ Some job → FilesFailed before.at after.at
      → Tells asked before after status.FileFault file_fault_line
  overflow : (job : KeptJob) (net : NetworkValue) (n : ℕ) (number : ℤ) → asked ≡ Some job → Opens job before net
      → OpeningOverflows net job.mode n number → Tells asked before after status.Overflow (overflow_line (told_pivots n) number)
  store_fault : Begins asked before → StoreFailed before after → Tells asked before after status.StoreFault store_fault_line
  store_refused : (begins : Begins asked before) (rows : List KeptRow) (number : ℕ) → Lists rows before.rows
      → load begins.net rows ≡ Err number → Tells asked before after status.StoreRefused (store_refused_line number)

-- no session was started: the stream was not touched, the rows stay, and the store failed only if this text says so
pub record NoSession (before after : KeptOutside) (text : List ℕ) : Type 0 where
  pub left : LeftStream before.at after.at
  pub stays : RowsStay before after
  pub store : StoreDidNotFail before after ⊎ (StoreFailed before after × (text ≡ store_fault_line))

-- a text was written whole, or cut
pub record Told (asked : Option KeptJob) (before after : KeptOutside) (s : KeptStatus) : Type 0 where
  pub text : List ℕ
  pub tells : Tells asked before after s text
  pub wrote : Wrote before.at after.at text
  pub rest : NoSession before after text

pub record ToldCut (asked : Option KeptJob) (before after : KeptOutside) : Type 0 where
  pub status : KeptStatus
  pub text : List ℕ
  pub tells : Tells asked before after status text
  pub wrote : WroteCut before.at after.at text
  pub rest : NoSession before after text

-- memory ran out before anything was written, and before a byte of the stream was taken
pub record RanOut (asked : Option KeptJob) (before after : KeptOutside) : Type 0 where
  pub job : KeptJob
  pub asks : asked ≡ Some job
  pub wrote : WroteNothing before.at after.at
  pub rest : NoSession before after []

-- what each status says
abbrev pub Ends : Option KeptJob → KeptOutside → KeptOutside → KeptStatus → Type 0
Ends asked before after status.Done = Ran asked before after end.Done
Ends asked before after status.Usage = Told asked before after status.Usage
Ends asked before after status.Refused = Told asked before after status.Refused
Ends asked before after status.ReadFault = SourceFailed before.at after.at × Ran asked before after end.ReadFault
Ends asked before after status.WriteFault =
    SinkFailed before.at after.at × (Ran asked before after end.WriteFault ⊎ ToldCut asked before after)
Ends asked before after status.NoMemory = RanOut asked before after
Ends asked before after status.Overflow = Told asked before after status.Overflow
Ends asked before after status.TooLong = Ran asked before after end.TooLong
Ends asked before after status.FileFault = Told asked before after status.FileFault
Ends asked before after status.StoreFault = Told asked before after status.StoreFault
Ends asked before after status.StoreRefused = Told asked before after status.StoreRefused

-- which counts of files, stream and output each status leaves as they were: one rises, by one, only with the status of its fault, and that
-- of the files too if the line that tells of it is cut
abbrev pub Failures : KeptStatus → Outside → Outside → Type 0
Failures status.ReadFault before after = (after.file_faults ≡ before.file_faults) × (after.sink_faults ≡ before.sink_faults)
Failures status.WriteFault before after =
    (after.source_faults ≡ before.source_faults)
    × ((after.file_faults ≡ before.file_faults) ⊎ (FilesFailed before after × WroteCut before after file_fault_line))
Failures status.FileFault before after = (after.source_faults ≡ before.source_faults) × (after.sink_faults ≡ before.sink_faults)
Failures status.Done before after = NothingFailed before after
Failures status.Usage before after = NothingFailed before after
Failures status.Refused before after = NothingFailed before after
Failures status.NoMemory before after = NothingFailed before after
Failures status.Overflow before after = NothingFailed before after
Failures status.TooLong before after = NothingFailed before after
Failures status.StoreFault before after = NothingFailed before after
Failures status.StoreRefused before after = NothingFailed before after

-- a status with its whole output, or memory ran out and nothing was written
abbrev pub OrRanOut : KeptOutside → KeptOutside → KeptStatus → KeptStatus → List ℕ → Type 0
OrRanOut before after s wanted output =
    ((s ≡ wanted) × Wrote before.at after.at output) ⊎ ((s ≡ status.NoMemory) × WroteNothing before.at after.at)

-- if the opening linear program is Large the line that says so is written
abbrev pub TellsOverflow : KeptJob → NetworkValue → KeptOutside → KeptOutside → KeptStatus → Type 0
TellsOverflow job net before after s =
    (n : ℕ) (number : ℤ) → OpeningOverflows net job.mode n number
    → OrRanOut before after s status.Overflow (overflow_line (told_pivots n) number)

-- if there is an opening plan, and the rows are told but don't load, the line that names the first such row is written
abbrev pub RefusesRows : KeptJob → NetworkValue → KeptOutside → KeptOutside → KeptStatus → Type 0
RefusesRows job net before after s =
    (plan : PlanValue) (rows : List KeptRow) (number : ℕ) → IsOpeningPlan net job.mode plan → before.rows ≡ Some rows
    → load net rows ≡ Err number → OrRanOut before after s status.StoreRefused (store_refused_line number)

-- if there is an opening plan, the rows are told and load, and the stream is told and short, the replies to all its lines are written
abbrev pub AnswersAll : KeptJob → NetworkValue → KeptOutside → KeptOutside → KeptStatus → Type 0
AnswersAll job net before after s =
    (plan : PlanValue) (rows : List KeptRow) (loaded : Loaded) (stream : List ℕ) → IsOpeningPlan net job.mode plan
    → before.rows ≡ Some rows → load net rows ≡ Ok loaded → before.at.coming ≡ Some stream → length stream ≤ MOST_STREAM_BYTES
    → ((s ≡ status.Done) × ((output : List ℕ) × (last : SeatState)
    × KeptWrites net (loaded_state plan loaded) (commands_of stream) output last before.store_faults after.store_faults
    × Wrote before.at after.at output)) ⊎ ((s ≡ status.NoMemory) × WroteNothing before.at after.at)

-- Nothing failed that ends a call before its time: of the store that is its listing alone, which has a status of its own. Its faults in a
-- session end none: `counted` of the run has each of them.
pub record NothingHinders (before after : KeptOutside) (s : KeptStatus) : Type 0 where
  pub files : ¬ (FilesFailed before.at after.at)
  pub stream : ¬ (SourceFailed before.at after.at)
  pub output : ¬ (SinkFailed before.at after.at)
  pub listing : s ≢ status.StoreFault

-- if the words are good, the files are told, the file is valid and nothing failed that ends a call, the job is done
abbrev pub Completes : Option KeptJob → KeptOutside → KeptOutside → KeptStatus → Type 0
Completes asked before after s =
    (job : KeptJob) (files : Folder) (net : NetworkValue) → asked ≡ Some job → before.at.files ≡ Some files
    → network_under (files job.file) ≡ Ok net → NothingHinders before after s
    → TellsOverflow job net before after s × RefusesRows job net before after s × AnswersAll job net before after s

-- `ends`: for each status what the words, the files, the rows, the stream and the written bytes were. `complete`: good words, a valid file,
-- rows that are told and load, nothing that failed and a short stream give the whole output, or memory ran out and nothing was written.
-- `failures`: a count of faults rises, by one, only with the status of its fault. `goes`: no count of these falls, and the files stay.
pub record KeptCall (asked : Option KeptJob) (before after : KeptOutside) (result : KeptStatus) : Type 0 where
  pub ends : Ends asked before after result
  pub complete : Completes asked before after result
  pub failures : Failures result before.at after.at
  pub goes : Goes before.at after.at
