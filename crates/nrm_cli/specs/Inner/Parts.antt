-- What the parts of the top call promise one another.
use Rattle.std.specs.Prelude.{ℕ, ◌≡◌, ◌≢◌, ◌+◌, ◌-◌, ◌≤◌, ◌⊎◌, List, [], length, Option, Some, Result, Ok, Err, MatchResult, IfSome}
use Rattle.std.specs.Prelude.{option_map, ⊤}
use Rattle.std.specs.Io.KnownBytes.{Keeps}
use Rattle.nrm_edge.specs.Causes.{Rose}
use Rattle.nrm_edge.specs.Fetch.{Folder}
use Rattle.nrm_edge.specs.declared.files.Fetched.{Fetched}
use Rattle.nrm_edge.specs.declared.files.Fetched.TheVariants as fetched
use Rattle.nrm_model.specs.Network.{NetworkValue}
use Rattle.nrm_model.specs.Inventory.{inventory_of}
use Rattle.nrm_model.specs.declared.mode.Mode.{Mode}
use Rattle.nrm_simplex.specs.declared.fault.SolveFault.{SolveFault}
use Rattle.nrm_plan.specs.Plans.{IsOpeningPlan, IsPlanFault, PlanValue}
use Rattle.nrm_report.specs.Texts.{plan_text}
use Rattle.nrm_fraction.specs.Large.{size_limit}
use Rattle.nrm_model.specs.declared.limits.TheConstants.{MOST_STREAM_BYTES}
use Rattle.nrm_lp.specs.declared.certificate.Certificate.{Certificate}
use Rattle.nrm_lp.specs.Certified.{Certifies}
use Rattle.nrm_dlp.specs.Programs.{opening_program}
use Rattle.nrm_dual.specs.Conditions.{verdict_on}
use Rattle.nrm_dual.specs.Named.{IsOfNetwork}
use Rattle.nrm_dual.specs.Reading.{certificate_of}
use Rattle.nrm_dual.specs.Refusals.{IsRefusedFor, refusal_of}
use Rattle.nrm_dual.specs.declared.fault.CertFault.TheVariants as certificate
use Rattle.nrm_dual.specs.declared.verdict.Verdict.{Verdict}
use Rattle.nrm_dual.specs.declared.verdict.Verdict.TheVariants as verdict
use Rattle.nrm_common_cli.specs.Outside.{OnFile}
use Rattle.nrm_common_cli.specs.Refusals.{file_fault_line}
use Rattle.nrm_common_cli.specs.Puts.{PutsIfSome, PutsLine, PutsUnplanned}
use Rattle.nrm_findings.specs.Certificates.{certificate_under, lacking_line, no_certificate, refused_for, verdict_line}
use Rattle.nrm_hindsight.specs.Requests.{tallies_of}
use Rattle.nrm_control.specs.Standing.{ControlValue, IsControl, IsStartFault, Represents}
use Rattle.nrm_control.specs.State.{SeatState}
use Rattle.nrm_stream.specs.declared.command.Command.{Command}
use Rattle.nrm_gen.specs.MadeCommands.{Making, command_count, commands_from}
use Rattle.nrm_session.specs.Answering.{IsTellable, reply_in}
use Rattle.nrm_session.specs.Laws.{MemorySuffices}
use Rattle.nrm_session.specs.Replies.{Reply}
use Rattle.nrm_session.specs.Run.{Run}
use Rattle.nrm_session.specs.Serving.{CountsFaults, Serves, Streams}
use Rattle.nrm_session.specs.declared.reply.Reply.{Reply as Answered}
use Rattle.nrm_session.specs.declared.serving.End.{End}
use Rattle.nrm_session.specs.declared.serving.End.TheVariants as end
use Rattle.nrm_cli.specs.Ends.{status_of}
use Rattle.nrm_findings.specs.Summary.{nothing_counted}
use Rattle.nrm_cli.specs.Made.{MadeRun, counts_from, last_of}
use Rattle.nrm_findings.specs.declared.summary.Counts.{Counts}
use Rattle.nrm_cli.specs.declared.status.Status.{Status}
use Rattle.nrm_cli.specs.declared.status.Status.TheVariants as status
use Rattle.nrm_cli.specs.declared.certificate.NoCertificate.{NoCertificate}
use Rattle.nrm_cli.specs.declared.certificate.NoCertificate.TheVariants as lacking
use Rattle.nrm_cli.specs.declared.status.TheConstants.{STATUSES}

-- the certificate of the file of this name for a network, where the files are told, or why there is none; a fault of the files
-- tells nothing of them, and running out of memory is free
abbrev pub OpensCertificate : NetworkValue → Option Folder → List ℕ → Result Certificate NoCertificate → Type 0
OpensCertificate net files name (Ok given) = OnFile files name (λ file. certificate_under net file ≡ Ok given)
OpensCertificate net files name (Err lacking.Absent) = OnFile files name (λ file. certificate_under net file ≡ Err no_certificate)
OpensCertificate net files name (Err (lacking.Unread fault)) =
    OnFile files name (λ file. IfSome (refusal_of fault) (λ cause. certificate_under net file ≡ Err (refused_for cause)))
OpensCertificate net files name (Err lacking.Fault) = ⊤

-- what was fetched is read as a certificate for a network: it is too long, or isn't there, or its bytes give a certificate or are
-- refused; running out of memory is free only where there are bytes to read
abbrev pub ReadsBytes : NetworkValue → List ℕ → Result Certificate NoCertificate → Type 0
ReadsBytes net bytes (Ok given) = certificate_of net bytes ≡ Ok given
ReadsBytes net bytes (Err (lacking.Unread fault)) = IsRefusedFor (refusal_of fault) (certificate_of net bytes)
ReadsBytes net bytes (Err lacking.Absent) = ⊥
ReadsBytes net bytes (Err lacking.Fault) = ⊥

abbrev pub ReadsCertificate : NetworkValue → Fetched → Result Certificate NoCertificate → Type 0
ReadsCertificate net (fetched.Whole bytes) result = ReadsBytes net bytes.items result
ReadsCertificate net fetched.Longer result = result ≡ Err (lacking.Unread certificate.Long)
ReadsCertificate net fetched.Absent result = result ≡ Err lacking.Absent

-- the files' count rose with a fault of the files, and else it stays
abbrev pub CountsCertificate : {C : Type 0} → ℕ → ℕ → Result C NoCertificate → Type 0
CountsCertificate before now (Ok given) = now ≡ before
CountsCertificate before now (Err lacking.Absent) = now ≡ before
CountsCertificate before now (Err (lacking.Unread fault)) = now ≡ before
CountsCertificate before now (Err lacking.Fault) = (before ≤ now) × Rose before now

-- a refusal names a product or a leg of the network
abbrev pub IsLackOf : NetworkValue → NoCertificate → Type 0
IsLackOf net lacking.Absent = ⊤
IsLackOf net (lacking.Unread fault) = IsOfNetwork net fault
IsLackOf net lacking.Fault = ⊤

-- what is written where there is no certificate, and nothing if memory ran out
abbrev pub lack_line : NetworkValue → NoCertificate → Option (List ℕ)
lack_line net lacking.Absent = Some (lacking_line net no_certificate)
lack_line net (lacking.Unread fault) = option_map (λ cause. lacking_line net (refused_for cause)) (refusal_of fault)
lack_line net lacking.Fault = Some file_fault_line

-- the status that goes with it
abbrev pub lack_status : NoCertificate → Status
lack_status lacking.Absent = status.Refused
lack_status (lacking.Unread fault) = status.Refused
lack_status lacking.Fault = status.FileFault

-- the text of the opening plan of a network in a mode is put, or it is told why there is none
abbrev pub PutsPlan : NetworkValue → Mode → Option (List ℕ) → Option (List ℕ) → ℕ → ℕ → Status → Type 0
PutsPlan net m held held' before now result =
    ((plan : PlanValue) × IsOpeningPlan net m plan × PutsLine STATUSES (plan_text net plan) status.Done held held' before now result)
    ⊎ ((why : SolveFault) × IsPlanFault net m (inventory_of net).authorised 1 why × PutsUnplanned STATUSES why held held' before now result)

-- what is put and answered where there is a certificate: the verdict on it, which is optimal only where the certificate shows that it
-- is, and is never that it has another shape
pub record PutsFound (net : NetworkValue) (given : Certificate) (held held' : Option (List ℕ))
    (before now : ℕ) (result : Status) : Type 0 where
  pub found : Verdict
  pub verdict_is : verdict_on (opening_program net) given ≡ found
  pub shaped : found ≢ verdict.WrongShape
  pub optimal : found ≡ verdict.Optimal → Certifies size_limit (opening_program net) given
  pub puts : PutsLine STATUSES (verdict_line net found) (status_of found) held held' before now result

-- it is put by the linear program that was to be had; if memory ran out on that, nothing is
abbrev pub PutsCompared : {P E : Type 0} → NetworkValue → Certificate → Result P E
    → Option (List ℕ) → Option (List ℕ) → ℕ → ℕ → Status → Type 0
PutsCompared net given (Ok program) held held' before now result = PutsFound net given held held' before now result
PutsCompared net given (Err fault) held held' before now result = (result ≡ status.NoMemory) × Keeps held held' × (now ≡ before)

abbrev pub PutsVerdict : NetworkValue → Certificate → Option (List ℕ) → Option (List ℕ) → ℕ → ℕ → Status → Type 0
PutsVerdict net given held held' before now result =
    ((result ≡ status.NoMemory) × Keeps held held' × (now ≡ before)) ⊎ PutsFound net given held held' before now result

-- a certificate was opened for a network, and the verdict on it was put, or it was told why there is none
pub record ChecksFile (net : NetworkValue) (files : Option Folder) (name : List ℕ)
    (held held' : Option (List ℕ)) (before now sunk sunk' : ℕ) (result : Status) : Type 0 where
  pub opened : Result Certificate NoCertificate
  pub opens : OpensCertificate net files name opened
  pub counts : CountsCertificate before now opened
  pub puts : MatchResult opened (λ given. PutsVerdict net given held held' sunk sunk' result)
      (λ reason. PutsIfSome STATUSES (lack_line net reason) (lack_status reason) held held' sunk sunk' result)

-- the status that goes with the end of a session
abbrev pub status_at : End → Status
status_at end.Done = status.Done
status_at end.ReadFault = status.ReadFault
status_at end.WriteFault = status.WriteFault
status_at end.TooLong = status.TooLong

-- how many replies were counted
abbrev pub total_of : Counts → ℕ
total_of c = c.sold + c.no_leg + c.no_fare + c.cancelled + c.unknown + c.legs + c.optimised + c.overflow

-- the commands that a maker still gives
abbrev pub rest_of : Making → List Command
rest_of making = commands_from (command_count - making.given) making.given making.state

-- these commands were answered, in each state that the controller represented, with replies of which none runs out of memory: all but the
-- last were counted, and this is the last
pub record AnswersMade (old new : ControlValue) (commands : List Command) (counts : Counts) (last : Answered) : Type 0 where
  pub network : new.net ≡ old.net
  pub tellable : IsTellable new.net last
  pub run : (s : SeatState) → Represents old s → (s' : SeatState) × (replies : List Reply) × Represents new s'
      × Run old.net s commands replies s' × MemorySuffices replies
      × (counts ≡ counts_from nothing_counted replies) × (last_of replies ≡ reply_in new last)
  pub sound : IsControl new
  pub few : total_of counts ≤ length commands

-- a controller of a network that has just begun, with its plan
abbrev pub HasBegun : NetworkValue → ControlValue → Type 0
HasBegun net control = control ≡ record { net = net; plan = control.plan; bookings = []; next = 1; tallies = tallies_of net []; withheld = 0 }

-- the summary of a run from the opening is put, or nothing if memory ran out
abbrev pub PutsSummary : NetworkValue → PlanValue → ℕ → Option (List ℕ) → Option (List ℕ) → ℕ → ℕ → Status → Type 0
PutsSummary net plan number held held' before now result =
    ((result ≡ status.NoMemory) × Keeps held held' × (now ≡ before))
    ⊎ ((text : List ℕ) × MadeRun net plan number text × PutsLine STATUSES text status.Done held held' before now result)

-- what is told is put with its status, or memory ran out and nothing was put
abbrev pub PutsTold : (Status → List ℕ → Type 0) → Option (List ℕ) → Option (List ℕ) → ℕ → ℕ → Status → Type 0
PutsTold told held held' before now result =
    ((result ≡ status.NoMemory) × Keeps held held' × (now ≡ before))
    ⊎ ((goes : Status) × (text : List ℕ) × told goes text × PutsLine STATUSES text goes held held' before now result)

-- the run is answered from the opening plan of its network and its summary is put, or it is put why there is no such plan
abbrev pub PutsMade : NetworkValue → Mode → ℕ → Option (List ℕ) → Option (List ℕ) → ℕ → ℕ → Status → Type 0
PutsMade net m number held held' before now result =
    ((plan : PlanValue) × IsOpeningPlan net m plan × PutsSummary net plan number held held' before now result)
    ⊎ ((why : SolveFault) × IsStartFault net m why × PutsUnplanned STATUSES why held held' before now result)

-- a controller that has just begun, with the opening plan of a network, answered the stream
pub record ServesFrom (net : NetworkValue) (m : Mode) (before after : Streams) (result : Status) : Type 0 where
  pub start : ControlValue
  pub last : ControlValue
  pub ended : End
  pub begun : HasBegun net start
  pub planned : IsOpeningPlan net m start.plan
  pub serves : Serves start last before after MOST_STREAM_BYTES ended
  pub counts : CountsFaults before after ended
  pub status : result ≡ status_at ended

-- or it was put why there is no such plan, and the stream was not touched
pub record TellsWhy (net : NetworkValue) (m : Mode) (before after : Streams) (result : Status) : Type 0 where
  pub why : SolveFault
  pub is : IsStartFault net m why
  pub puts : PutsUnplanned STATUSES why before.held after.held before.sink_faults after.sink_faults result
  pub left : after.coming ≡ before.coming
  pub source : after.source_faults ≡ before.source_faults
  pub later : before.sink_faults ≤ after.sink_faults

abbrev pub ServesNetwork : NetworkValue → Mode → Streams → Streams → Status → Type 0
ServesNetwork net m before after result = ServesFrom net m before after result ⊎ TellsWhy net m before after result
