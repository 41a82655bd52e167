-- What one call of `run_why` says of what stands outside it: what each status says, that an account comes, and which counts rise.
use Rattle.std.specs.Prelude.{ℕ, ◌≡◌, ◌<◌, ◌≤◌, ◌⊎◌, List, length, Option, Some, Ok}
use Rattle.nrm_edge.specs.Fetch.{Folder}
use Rattle.nrm_model.specs.Network.{NetworkValue}
use Rattle.nrm_model.specs.declared.limits.TheConstants.{MOST_STREAM_BYTES}
use Rattle.nrm_plan.specs.Plans.{IsOpeningPlan, PlanValue}
use Rattle.nrm_control.specs.State.{opening}
use Rattle.nrm_stream.specs.Commands.{commands_of}
use Rattle.nrm_common_cli.specs.Outside.{FilesFailed, Goes, NothingFailed, Outside, SinkFailed, SourceFailed, Wrote, WroteCut, WroteNothing}
use Rattle.nrm_common_cli.specs.Refusals.{file_fault_line, network_under}
use Rattle.nrm_account.specs.Readings.{IsAccountOf}
use Rattle.nrm_why_cli.specs.Ends.{Ends}
use Rattle.nrm_why_cli.specs.Jobs.{WhyJob, absent_line}
use Rattle.nrm_why_cli.specs.declared.status.WhyStatus.{WhyStatus}
use Rattle.nrm_why_cli.specs.declared.status.WhyStatus.TheVariants as status

-- neither the files nor the stream nor the output failed
pub record NothingHinders (before after : Outside) : Type 0 where
  pub files : ¬ (FilesFailed before after)
  pub stream : ¬ (SourceFailed before after)
  pub output : ¬ (SinkFailed before after)

-- The account of the line was written; or the stream has fewer lines, and the line that says so was written; or memory ran out, and nothing was.
pub data Comes (number : ℕ) (net : NetworkValue) (plan : PlanValue) (stream : List ℕ) (before after : Outside) : WhyStatus → Type 0 where
  accounted : (text : List ℕ) → IsAccountOf net (opening plan) number (commands_of stream) text → Wrote before after text
      → Comes number net plan stream before after status.Done
  lacking : length (commands_of stream) < number → Wrote before after (absent_line number) → Comes number net plan stream before after status.NoLine
  ran_out : WroteNothing before after → Comes number net plan stream before after status.NoMemory

-- If the words ask for the account of a line, the files are told and that of the job gives a network with an opening plan, the stream is told and
-- isn't too long, and nothing failed, then the account comes: of that line of that stream, on that network from that plan.
abbrev pub Completes : Option WhyJob → Outside → Outside → WhyStatus → Type 0
Completes asked before after s =
    (job : WhyJob) (files : Folder) (net : NetworkValue) (plan : PlanValue) (stream : List ℕ) → asked ≡ Some job → 1 ≤ job.number
    → before.files ≡ Some files → network_under (files job.file) ≡ Ok net → IsOpeningPlan net job.mode plan
    → before.coming ≡ Some stream → length stream ≤ MOST_STREAM_BYTES → NothingHinders before after
    → Comes job.number net plan stream before after s

-- if an output failed, the files' count is as it was, or what was cut is the line that tells of their fault
abbrev pub FilesFailedBefore : Outside → Outside → Type 0
FilesFailedBefore before after =
    (after.file_faults ≡ before.file_faults) ⊎ (FilesFailed before after × WroteCut before after file_fault_line)

-- which counts each status leaves as they were: a count of faults rises, by one, only with the status of its fault, and that of the files too if
-- the line that tells of it is cut
abbrev pub Failures : WhyStatus → Outside → Outside → Type 0
Failures status.ReadFault before after = (after.file_faults ≡ before.file_faults) × (after.sink_faults ≡ before.sink_faults)
Failures status.WriteFault before after = (after.source_faults ≡ before.source_faults) × FilesFailedBefore before after
Failures status.FileFault before after = (after.source_faults ≡ before.source_faults) × (after.sink_faults ≡ before.sink_faults)
Failures status.Done before after = NothingFailed before after
Failures status.Usage before after = NothingFailed before after
Failures status.Refused before after = NothingFailed before after
Failures status.NoMemory before after = NothingFailed before after
Failures status.Overflow before after = NothingFailed before after
Failures status.TooLong before after = NothingFailed before after
Failures status.NoLine before after = NothingFailed before after

-- what each status says; that an account comes; which counts rise, and that none falls and the files stay
pub record Call (asked : Option WhyJob) (before after : Outside) (result : WhyStatus) : Type 0 where
  pub ends : Ends asked before after result
  pub complete : Completes asked before after result
  pub failures : Failures result before after
  pub goes : Goes before after
