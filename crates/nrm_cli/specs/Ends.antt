-- How the program ends: what each status says of the words, the files, the stream and what was written.
use Rattle.std.specs.Prelude.{ℕ, ◌≡◌, ◌+◌, ◌≤◌, ◌⊎◌, List, length, take, Option, Some, None}
use Rattle.std.specs.Io.KnownBytes.{Consumes, IsAtEnd}
use Rattle.nrm_model.specs.declared.mode.Mode.{Mode}
use Rattle.nrm_model.specs.Network.{NetworkValue}
use Rattle.nrm_model.specs.declared.limits.TheConstants.{MOST_STREAM_BYTES}
use Rattle.nrm_control.specs.State.{SeatState, opening}
use Rattle.nrm_stream.specs.Commands.{commands_of, whole_commands}
use Rattle.nrm_stream.specs.declared.command.Command.{Command}
use Rattle.nrm_session.specs.Run.{Writes}
use Rattle.nrm_session.specs.Serving.{WritesCut}
use Rattle.nrm_dual.specs.declared.verdict.Verdict.{Verdict}
use Rattle.nrm_dual.specs.declared.verdict.Verdict.TheVariants as verdict
use Rattle.nrm_plan.specs.Plans.{IsOpeningPlan, PlanValue}
use Rattle.nrm_common_cli.specs.Outside.{Outside, FilesFailed, SourceFailed, SinkFailed, NothingFailed, Wrote, WroteCut, WroteNothing}
use Rattle.nrm_common_cli.specs.Outside.{LeftStream}
use Rattle.nrm_common_cli.specs.Refusals.{file_fault_line}
use Rattle.nrm_cli.specs.Jobs.{Job, Task, runs, run_file, HasNetwork, NamesFile, TakesStream}
use Rattle.nrm_cli.specs.Tells.{Opens, TellsOf, Told, ToldCut}
use Rattle.nrm_cli.specs.declared.status.Status.{Status}
use Rattle.nrm_cli.specs.declared.status.Status.TheVariants as status

-- the output of a run from the opening with a plan, over commands, and of a run that was cut in a reply
abbrev pub RunWrites : NetworkValue → PlanValue → List Command → List ℕ → Type 0
RunWrites net plan commands output = (last : SeatState) × Writes net (opening plan) commands output last

abbrev pub RunWritesCut : NetworkValue → PlanValue → List Command → List ℕ → Type 0
RunWritesCut net plan commands output = (last : SeatState) × WritesCut net (opening plan) commands output last

-- the words ask for a run in a mode, the file gives a network, and this is its opening plan
pub record Starts (asked : Option Job) (before : Outside) : Type 0 where
  pub mode : Mode
  pub file : List ℕ
  pub net : NetworkValue
  pub plan : PlanValue
  pub opens : Opens asked (run_file mode file) before net
  pub planned : IsOpeningPlan net mode plan

-- a run was started, these bytes of the stream were taken, and such output was written
pub record Ran (asked : Option Job) (before after : Outside) (writes : NetworkValue → PlanValue → List ℕ → List ℕ → Type 0) : Type 0 where
  pub starts : Starts asked before
  pub taken : List ℕ
  pub output : List ℕ
  pub took : Consumes before.coming after.coming taken
  pub writes_it : writes starts.net starts.plan taken output
  pub wrote : Wrote before after output

-- the stream was taken to its end, and the replies to all its lines were written
abbrev pub RanThrough : Option Job → Outside → Outside → Type 0
RanThrough asked before after =
    Ran asked before after (λ net plan taken output. (length taken ≤ MOST_STREAM_BYTES) × IsAtEnd after.coming
    × RunWrites net plan (commands_of taken) output)

-- those to the whole lines that were taken
abbrev pub RanSoFar : Option Job → Outside → Outside → Type 0
RanSoFar asked before after =
    Ran asked before after (λ net plan taken output. (length taken ≤ MOST_STREAM_BYTES) × RunWrites net plan (whole_commands taken) output)

-- of some commands one was cut, since a put failed in its reply; or the replies to all were put, and only sending them on failed
abbrev pub RunStops : NetworkValue → PlanValue → List Command → List ℕ → Type 0
RunStops net plan commands output = RunWritesCut net plan commands output ⊎ RunWrites net plan commands output

-- so it is with the whole lines that were taken, or with all lines of a stream that was taken to its end
abbrev pub RanCut : Option Job → Outside → Outside → Type 0
RanCut asked before after = Ran asked before after (λ net plan taken output. (length taken ≤ MOST_STREAM_BYTES)
    × (RunStops net plan (whole_commands taken) output ⊎ (IsAtEnd after.coming × RunStops net plan (commands_of taken) output)))

-- one byte more was taken than a stream may have, and the replies to the whole lines before that byte were written
abbrev pub RanTooLong : Option Job → Outside → Outside → Type 0
RanTooLong asked before after =
    Ran asked before after (λ net plan taken output. (length taken ≡ MOST_STREAM_BYTES + 1)
    × RunWrites net plan (whole_commands (take MOST_STREAM_BYTES taken)) output)

-- memory ran out before anything was written, and before a byte of the stream was taken
abbrev pub RanOut : Option Job → Outside → Outside → Type 0
RanOut (Some job) before after = WroteNothing before after × LeftStream before after
RanOut None before after = ⊥

-- what each status says
abbrev pub Ends : Option Job → Outside → Outside → Status → Type 0
Ends asked before after status.Done = RanThrough asked before after ⊎ Told asked before after status.Done
Ends asked before after status.Wrong = Told asked before after status.Wrong
Ends asked before after status.Usage = Told asked before after status.Usage
Ends asked before after status.Refused = Told asked before after status.Refused
Ends asked before after status.ReadFault = SourceFailed before after × RanSoFar asked before after
Ends asked before after status.WriteFault = SinkFailed before after × (RanCut asked before after ⊎ ToldCut asked before after)
Ends asked before after status.NoMemory = RanOut asked before after
Ends asked before after status.TooLong = RanTooLong asked before after
Ends asked before after status.FileFault = Told asked before after status.FileFault
Ends asked before after status.Overflow = Told asked before after status.Overflow
Ends asked before after status.NoLeg = Told asked before after status.NoLeg
Ends asked before after status.NoClass = Told asked before after status.NoClass

-- if an output failed, the files' count is as it was, or what was cut is the line that tells of their fault
abbrev pub FilesFailedBefore : Outside → Outside → Type 0
FilesFailedBefore before after =
    (after.file_faults ≡ before.file_faults) ⊎ (FilesFailed before after × WroteCut before after file_fault_line)

-- which counts each status leaves as they were: a count of faults rises, by one, only with the status of its fault, and
-- that of the files too if the line that tells of it is cut
abbrev pub Failures : Status → Outside → Outside → Type 0
Failures status.ReadFault before after = (after.file_faults ≡ before.file_faults) × (after.sink_faults ≡ before.sink_faults)
Failures status.WriteFault before after = (after.source_faults ≡ before.source_faults) × FilesFailedBefore before after
Failures status.FileFault before after = (after.source_faults ≡ before.source_faults) × (after.sink_faults ≡ before.sink_faults)
Failures status.Done before after = NothingFailed before after
Failures status.Wrong before after = NothingFailed before after
Failures status.Usage before after = NothingFailed before after
Failures status.Refused before after = NothingFailed before after
Failures status.NoMemory before after = NothingFailed before after
Failures status.TooLong before after = NothingFailed before after
Failures status.Overflow before after = NothingFailed before after
Failures status.NoLeg before after = NothingFailed before after
Failures status.NoClass before after = NothingFailed before after

-- the status that goes with a verdict
abbrev pub status_of : Verdict → Status
status_of verdict.Optimal = status.Done
status_of verdict.WrongShape = status.Wrong
status_of (verdict.WrongProduct product) = status.Wrong
status_of (verdict.WrongLeg leg) = status.Wrong
status_of verdict.WrongValue = status.Wrong

-- a status with its whole output, or memory ran out and nothing was written
abbrev pub OrRanOut : Outside → Outside → Status → Status → List ℕ → Type 0
OrRanOut before after s wanted output = ((s ≡ wanted) × Wrote before after output) ⊎ ((s ≡ status.NoMemory) × WroteNothing before after)

-- what is told is written whole with its status, or memory ran out and nothing was written
abbrev pub OrRanOutTelling : (Status → List ℕ → Type 0) → Outside → Outside → Status → Type 0
OrRanOutTelling told before after s =
    ((text : List ℕ) × told s text × Wrote before after text) ⊎ ((s ≡ status.NoMemory) × WroteNothing before after)

-- a job that takes the stream was done: the network has an opening plan, and where the stream is told and short, the replies to all its
-- lines are written
abbrev pub RunsThrough : Task → NetworkValue → Outside → Outside → Status → Type 0
RunsThrough (runs m) net before after s =
    (plan : PlanValue) × IsOpeningPlan net m plan
    × ((stream : List ℕ) → before.coming ≡ Some stream → length stream ≤ MOST_STREAM_BYTES
    → (s ≡ status.Done) × (output : List ℕ) × RunWrites net plan (commands_of stream) output × Wrote before after output)
RunsThrough _ net before after s = ⊥

-- a job that has a network was done: what it tells of it is written, or memory ran out; or it answered the stream
abbrev pub IsDone : Job → NetworkValue → Outside → Outside → Status → Type 0
IsDone job net before after s = OrRanOutTelling (TellsOf job net before.files) before after s ⊎ RunsThrough job.task net before after s

-- nothing failed that the job uses: the files if it names one, the stream if it takes it, the output
pub record NothingHinders (job : Job) (before after : Outside) : Type 0 where
  pub files : NamesFile job → ¬ (FilesFailed before after)
  pub stream : TakesStream job → ¬ (SourceFailed before after)
  pub output : ¬ (SinkFailed before after)

-- if the words ask for a job that has a network, and nothing that it uses failed, the job is done
abbrev pub Completes : Option Job → Outside → Outside → Status → Type 0
Completes asked before after s =
    (job : Job) (net : NetworkValue) → asked ≡ Some job → HasNetwork job before.files net → NothingHinders job before after
    → IsDone job net before after s
