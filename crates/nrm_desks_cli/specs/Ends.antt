-- How the program of many desks ends: what each status says of the words, the file, the frames and what was written.
use Rattle.std.specs.Prelude.{ℕ, ℤ, ◌≡◌, ◌⊎◌, List, Option, Some, None, Ok, Err, ⊤}
use Rattle.std.specs.Io.KnownBytes.{Appends}
use Rattle.nrm_edge.specs.Pieces.{AppendsCut}
use Rattle.nrm_model.specs.Network.{NetworkValue}
use Rattle.nrm_plan.specs.Plans.{IsOpeningPlan, OpeningOverflows, PlanValue}
use Rattle.nrm_control.specs.State.{opening}
use Rattle.nrm_control.specs.Standing.{ControlValue, IsControl, Represents}
use Rattle.nrm_frames.specs.Outgoing.{Output, differs, no_row, output_text}
use Rattle.nrm_common_cli.specs.Outside.{FilesFailed, LeftStream, OnFile, Outside, SinkFailed, SourceFailed, Wrote, WroteCut, WroteNothing}
use Rattle.nrm_common_cli.specs.Refusals.{Refusal, file_fault_line, network_under, refusal_line}
use Rattle.nrm_common_cli.specs.Words.{overflow_line, told_pivots}
use Rattle.nrm_session.specs.Serving.{Streams}
use Rattle.nrm_hub.specs.declared.again.AgainFault.{AgainFault}
use Rattle.nrm_hub.specs.declared.again.AgainFault.TheVariants as fault
use Rattle.nrm_hub.specs.declared.phase.Phase.TheVariants as phase
use Rattle.nrm_desks_cli.specs.Jobs.{DesksJob, usage_line}
use Rattle.nrm_desks_cli.specs.Served.{HasEnded, HasNoRow, IsNoFrame, IsTooLong, NothingIsLeft, Served, ServedBy}
use Rattle.nrm_desks_cli.specs.declared.status.DesksStatus.{DesksStatus}
use Rattle.nrm_desks_cli.specs.declared.status.DesksStatus.TheVariants as status

-- if the files are told, the file of a job gives this network
abbrev pub Opens : DesksJob → Outside → NetworkValue → Type 0
Opens job before net = OnFile before.files job.file (λ contents. network_under contents ≡ Ok net)

-- the words ask for a job whose file gives this network, this is its opening plan, and the controller represents the opening
pub record Begins (asked : Option DesksJob) (before : Outside) : Type 0 where
  pub job : DesksJob
  pub asks : asked ≡ Some job
  pub net : NetworkValue
  pub opens : Opens job before net
  pub plan : PlanValue
  pub planned : IsOpeningPlan net job.mode plan
  pub control : ControlValue
  pub is_control : IsControl control
  pub network : control.net ≡ net
  pub represents : Represents control (opening plan)

-- the source and the sink of what stands outside
abbrev pub streams_at : Outside → Streams
streams_at at = record { coming = at.coming; held = at.held; source_faults = at.source_faults; sink_faults = at.sink_faults }

-- frames were served from the opening, and P holds of how
pub record RanBy (Writes : Option (List ℕ) → Option (List ℕ) → List ℕ → Type 0) (asked : Option DesksJob) (before after : Outside)
    (P : (start : ControlValue) → ServedBy Writes start (streams_at before) (streams_at after) → Type 0) : Type 0 where
  pub begins : Begins asked before
  pub served : ServedBy Writes begins.control (streams_at before) (streams_at after)
  pub so : P begins.control served

abbrev pub Ran : (asked : Option DesksJob) (before after : Outside)
    → ((start : ControlValue) → Served start (streams_at before) (streams_at after) → Type 0) → Type 0
Ran asked before after P = RanBy Appends asked before after P

-- a line, the status that goes with it, and why it is told
pub data Tells (asked : Option DesksJob) (before after : Outside) : DesksStatus → List ℕ → Type 0 where
  usage : asked ≡ None → Tells asked before after status.Usage usage_line
  refused : (job : DesksJob) (refusal : Refusal) → asked ≡ Some job
      → OnFile before.files job.file (λ contents. network_under contents ≡ Err refusal)
      → Tells asked before after status.Refused (refusal_line refusal)
  file_fault : (job : DesksJob) → asked ≡ Some job → FilesFailed before after → Tells asked before after status.FileFault file_fault_line
  overflow : (job : DesksJob) (net : NetworkValue) (n : ℕ) (number : ℤ) → asked ≡ Some job → Opens job before net
      → OpeningOverflows net job.mode n number → Tells asked before after status.Overflow (overflow_line (told_pivots n) number)

-- a text was written, whole or cut, and the stream was not touched
pub record Told (Writes : Outside → Outside → List ℕ → Type 0) (asked : Option DesksJob) (before after : Outside) (s : DesksStatus) : Type 0 where
  pub text : List ℕ
  pub tells : Tells asked before after s text
  pub wrote : Writes before after text
  pub left : LeftStream before after

-- memory ran out before the stream was touched, and nothing was written
pub record RanOut (asked : Option DesksJob) (before after : Outside) : Type 0 where
  pub job : DesksJob
  pub asks : asked ≡ Some job
  pub wrote : WroteNothing before after
  pub left : LeftStream before after

-- rows can't be given again: this was found, and then the frame that says so is written, whole or cut
pub record Stops (Writes : Outside → Outside → List ℕ → Type 0) (asked : Option DesksJob) (before after : Outside) (why : ℕ → AgainFault)
    (frame : ℕ → Output) : Type 0 where
  pub found : Outside
  pub row : ℕ
  pub ran : Ran asked before found (λ start served. HasNoRow served (why row))
  pub wrote : Writes found after (output_text (frame row))
  pub left : LeftStream found after

-- what each status says
abbrev pub Ends : Option DesksJob → Outside → Outside → DesksStatus → Type 0
Ends asked before after status.Done = Ran asked before after (λ start served. HasEnded served)
Ends asked before after status.Usage = Told Wrote asked before after status.Usage
Ends asked before after status.Refused = Told Wrote asked before after status.Refused
Ends asked before after status.ReadFault = SourceFailed before after × Ran asked before after (λ start served. NothingIsLeft served)
Ends asked before after status.WriteFault =
    SinkFailed before after × (RanBy AppendsCut asked before after (λ start served. ⊤) ⊎ (((s : DesksStatus) × Told WroteCut asked before after s)
    ⊎ (Stops WroteCut asked before after fault.NoRow no_row ⊎ Stops WroteCut asked before after fault.Differs differs)))
Ends asked before after status.NoMemory =
    RanOut asked before after ⊎ Ran asked before after (λ start served. served.world.hub.phase ≡ phase.Replaying)
Ends asked before after status.Overflow = Told Wrote asked before after status.Overflow
Ends asked before after status.TooLong = Ran asked before after (λ start served. IsTooLong served)
Ends asked before after status.FileFault = Told Wrote asked before after status.FileFault
Ends asked before after status.NoFrame = Ran asked before after (λ start served. IsNoFrame served)
Ends asked before after status.NoRow = Stops Wrote asked before after fault.NoRow no_row
Ends asked before after status.Differs = Stops Wrote asked before after fault.Differs differs
