-- How the program that accounts for an answer ends: what each status says of the words, the files, the stream and what was written.
use Rattle.std.specs.Prelude.{ℕ, ℤ, ◌≡◌, ◌<◌, ◌⊎◌, true, false, List, ◌++◌, take, Option, Some, None, Ok, Err, ⊤}
use Rattle.nrm_model.specs.Network.{NetworkValue}
use Rattle.nrm_model.specs.declared.limits.TheConstants.{MOST_STREAM_BYTES}
use Rattle.nrm_plan.specs.Plans.{IsOpeningPlan, OpeningOverflows, PlanValue}
use Rattle.nrm_control.specs.State.{opening}
use Rattle.nrm_stream.specs.declared.command.Command.{Command}
use Rattle.nrm_common_cli.specs.Outside.{FilesFailed, LeftStream, OnFile, Outside, SinkFailed, SourceFailed, Wrote, WroteCut, WroteNothing}
use Rattle.nrm_common_cli.specs.Refusals.{Refusal, file_fault_line, network_under, refusal_line}
use Rattle.nrm_common_cli.specs.Words.{overflow_line, told_pivots}
use Rattle.nrm_session.specs.Serving.{ServesBy, Streams}
use Rattle.nrm_session.specs.declared.serving.End.{End}
use Rattle.nrm_session.specs.declared.serving.End.TheVariants as end
use Rattle.nrm_account.specs.Readings.{Reading, Reads, unread}
use Rattle.nrm_why_cli.specs.Jobs.{WhyJob, absent_line, usage_line}
use Rattle.nrm_why_cli.specs.declared.status.WhyStatus.{WhyStatus}
use Rattle.nrm_why_cli.specs.declared.status.WhyStatus.TheVariants as status

-- if the files are told, the file of a job gives this network
abbrev pub Opens : WhyJob → Outside → NetworkValue → Type 0
Opens job before net = OnFile before.files job.file (λ contents. network_under contents ≡ Ok net)

-- the words ask for a job whose file gives this network, and this is its opening plan
pub record Begins (asked : Option WhyJob) (before : Outside) : Type 0 where
  pub job : WhyJob
  pub asks : asked ≡ Some job
  pub net : NetworkValue
  pub opens : Opens job before net
  pub plan : PlanValue
  pub planned : IsOpeningPlan net job.mode plan

-- the source and the sink of what stands outside
abbrev pub streams_at : Outside → Streams
streams_at at = record { coming = at.coming; held = at.held; source_faults = at.source_faults; sink_faults = at.sink_faults }

-- The commands are read from the opening for the account of the line that the job asks for, this is what is written of it, and P holds of the
-- reading at the end; or so it is of some first of them, and a front of that was written.
abbrev pub ReadsTo : {asked : Option WhyJob} {before : Outside} → Begins asked before → (Reading → Type 0) → List Command → List ℕ → Type 0
ReadsTo begins P commands output =
    (last : Reading) × P last × Reads begins.net begins.job.number (unread begins.job.number (opening begins.plan)) commands output last

abbrev pub ReadsCut : {asked : Option WhyJob} {before : Outside} → Begins asked before → List Command → List ℕ → Type 0
ReadsCut begins commands output =
    (done : List Command) × (after : List Command) × (whole : List ℕ) × (count : ℕ) × (commands ≡ done ++ after) × (output ≡ take count whole)
    × ReadsTo begins (λ last. ⊤) done whole

-- a session was read and ended so
pub record Ran (asked : Option WhyJob) (before after : Outside) (P : Reading → Type 0) (e : End) : Type 0 where
  pub begins : Begins asked before
  pub serves : ServesBy (ReadsTo begins P) (ReadsCut begins) (streams_at before) (streams_at after) MOST_STREAM_BYTES e

-- a line, the status that goes with it, and why it is told
pub data Tells (asked : Option WhyJob) (before after : Outside) : WhyStatus → List ℕ → Type 0 where
  usage : asked ≡ None → Tells asked before after status.Usage usage_line
  refused : (job : WhyJob) (refusal : Refusal) → asked ≡ Some job
      → OnFile before.files job.file (λ contents. network_under contents ≡ Err refusal)
      → Tells asked before after status.Refused (refusal_line refusal)
  file_fault : (job : WhyJob) → asked ≡ Some job → FilesFailed before after → Tells asked before after status.FileFault file_fault_line
  overflow : (job : WhyJob) (net : NetworkValue) (n : ℕ) (number : ℤ) → asked ≡ Some job → Opens job before net
      → OpeningOverflows net job.mode n number → Tells asked before after status.Overflow (overflow_line (told_pivots n) number)

-- a text was written whole, or cut, and the stream was not touched
pub record Told (asked : Option WhyJob) (before after : Outside) (s : WhyStatus) : Type 0 where
  pub text : List ℕ
  pub tells : Tells asked before after s text
  pub wrote : Wrote before after text
  pub left : LeftStream before after

pub record ToldCut (asked : Option WhyJob) (before after : Outside) : Type 0 where
  pub status : WhyStatus
  pub text : List ℕ
  pub tells : Tells asked before after status text
  pub wrote : WroteCut before after text
  pub left : LeftStream before after

-- memory ran out before the stream was touched, and nothing was written
pub record RanOut (asked : Option WhyJob) (before after : Outside) : Type 0 where
  pub job : WhyJob
  pub asks : asked ≡ Some job
  pub wrote : WroteNothing before after
  pub left : LeftStream before after

-- the stream ended before the line that was asked for: nothing is written of it, and then the line that says so, whole or cut
pub record Lacks (asked : Option WhyJob) (before after : Outside) (Writes : Outside → Outside → List ℕ → Type 0) : Type 0 where
  pub read : Outside
  pub ran : Ran asked before read (λ last. (0 < last.left) × (last.ran_out ≡ false)) end.Done
  pub wrote : Writes read after (absent_line ran.begins.job.number)

-- what each status says
abbrev pub Ends : Option WhyJob → Outside → Outside → WhyStatus → Type 0
Ends asked before after status.Done = Ran asked before after (λ last. (last.left ≡ 0) × (last.ran_out ≡ false)) end.Done
Ends asked before after status.Usage = Told asked before after status.Usage
Ends asked before after status.Refused = Told asked before after status.Refused
Ends asked before after status.ReadFault = SourceFailed before after × Ran asked before after (λ last. ⊤) end.ReadFault
Ends asked before after status.WriteFault =
    SinkFailed before after
    × (Ran asked before after (λ last. ⊤) end.WriteFault ⊎ (ToldCut asked before after ⊎ Lacks asked before after WroteCut))
Ends asked before after status.NoMemory =
    RanOut asked before after ⊎ Ran asked before after (λ last. last.ran_out ≡ true) end.Done
Ends asked before after status.Overflow = Told asked before after status.Overflow
Ends asked before after status.TooLong = Ran asked before after (λ last. ⊤) end.TooLong
Ends asked before after status.FileFault = Told asked before after status.FileFault
Ends asked before after status.NoLine = Lacks asked before after Wrote
