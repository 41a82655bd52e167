-- The texts that the program tells, each with its status and its cause.
use Rattle.std.specs.Prelude.{ℕ, ℤ, ⊤, ◌≡◌, ◌≢◌, ◌⊎◌, List, Option, Some, None, Ok, Err}
use Rattle.nrm_model.specs.Network.{NetworkValue}
use Rattle.nrm_model.specs.declared.mode.Mode.{Mode}
use Rattle.nrm_network.specs.Canonical.{canonical_file}
use Rattle.nrm_fraction.specs.Large.{size_limit}
use Rattle.nrm_lp.specs.declared.certificate.Certificate.{Certificate}
use Rattle.nrm_lp.specs.Certified.{Certifies}
use Rattle.nrm_dlp.specs.Programs.{opening_program}
use Rattle.nrm_dual.specs.Conditions.{verdict_on}
use Rattle.nrm_dual.specs.declared.verdict.Verdict.{Verdict}
use Rattle.nrm_dual.specs.declared.verdict.Verdict.TheVariants as verdict
use Rattle.nrm_plan.specs.Plans.{IsOpeningPlan, OpeningOverflows, PlanValue}
use Rattle.nrm_report.specs.Texts.{plan_text}
use Rattle.nrm_edge.specs.Fetch.{Folder}
use Rattle.nrm_gen.specs.MadeNetwork.{made_network}
use Rattle.nrm_common_cli.specs.Outside.{Outside, OnFile, FilesFailed, Wrote, WroteCut, LeftStream}
use Rattle.nrm_common_cli.specs.Refusals.{Refusal, network_under, refusal_line, file_fault_line}
use Rattle.nrm_common_cli.specs.Words.{overflow_line, told_pivots}
use Rattle.nrm_findings.specs.Certificates.{LacksCertificate, certificate_under, lacking_line, verdict_line}
use Rattle.nrm_cli.specs.Jobs.{Job, Task, runs, plans, checks, prints, runs_made, cuts, values, NamesFile}
use Rattle.nrm_cli.specs.Jobs.{Origin, of_file, of_number, usage_line}
use Rattle.nrm_cli.specs.LegTexts.{CutsTold, ValuesTold}
use Rattle.nrm_cli.specs.Made.{MadeRun}
use Rattle.nrm_cli.specs.declared.status.Status.{Status}
use Rattle.nrm_cli.specs.declared.status.Status.TheVariants as status

-- where the files are told, the file of an origin gives this network; and a number makes it
abbrev pub GivesNetworkFrom : Origin → Option Folder → NetworkValue → Type 0
GivesNetworkFrom (of_file file) files net = OnFile files file (λ contents. network_under contents ≡ Ok net)
GivesNetworkFrom (of_number number) files net = net ≡ made_network number

abbrev pub GivesNetwork : Job → Option Folder → NetworkValue → Type 0
GivesNetwork job files net = GivesNetworkFrom job.origin files net

-- the words ask for a job, and it has this network
abbrev pub Opens : Option Job → Job → Outside → NetworkValue → Type 0
Opens asked job before net = (asked ≡ Some job) × GivesNetwork job before.files net

-- where the files are told, the file of an origin is refused so; a made network never is
abbrev pub RefusesNetworkFrom : Origin → Option Folder → Refusal → Type 0
RefusesNetworkFrom (of_file file) files refusal = OnFile files file (λ contents. network_under contents ≡ Err refusal)
RefusesNetworkFrom (of_number number) files refusal = ⊥

abbrev pub RefusesNetwork : Job → Option Folder → Refusal → Type 0
RefusesNetwork job files refusal = RefusesNetworkFrom job.origin files refusal

-- the words ask for a job whose file is refused so
pub record Refuses (asked : Option Job) (before : Outside) (refusal : Refusal) : Type 0 where
  pub job : Job
  pub asks : asked ≡ Some job
  pub refused : RefusesNetwork job before.files refusal

-- what is told of a network that has no plan, since its opening linear program is too large for the solver's numbers
abbrev pub TellsNoPlan : NetworkValue → Mode → Status → List ℕ → Type 0
TellsNoPlan net m s text =
    (n : ℕ) × (number : ℤ) × OpeningOverflows net m n number × (s ≡ status.Overflow) × (text ≡ overflow_line (told_pivots n) number)

-- or of its opening plan, that of period 1 with every authorised seat left
abbrev pub TellsPlanned : NetworkValue → Mode → (PlanValue → List ℕ → Type 0) → Status → List ℕ → Type 0
TellsPlanned net m told s text =
    ((plan : PlanValue) × IsOpeningPlan net m plan × told plan text × (s ≡ status.Done)) ⊎ TellsNoPlan net m s text

-- what is told of a certificate for the opening linear program of a network, where the files are told: why there is none in the file of
-- this name; `optimal` where allocation and bid prices are optimal, whoever made them; and else the first condition that fails
pub data TellsVerdict (net : NetworkValue) (files : Option Folder) (certificate : List ℕ) : Status → List ℕ → Type 0 where
  lacking : (reason : LacksCertificate) → OnFile files certificate (λ contents. certificate_under net contents ≡ Err reason)
      → TellsVerdict net files certificate status.Refused (lacking_line net reason)
  optimal : (given : Certificate) → OnFile files certificate (λ contents. certificate_under net contents ≡ Ok given)
      → verdict_on (opening_program net) given ≡ verdict.Optimal → Certifies size_limit (opening_program net) given
      → TellsVerdict net files certificate status.Done (verdict_line net verdict.Optimal)
  wrong : (given : Certificate) (found : Verdict) → OnFile files certificate (λ contents. certificate_under net contents ≡ Ok given)
      → verdict_on (opening_program net) given ≡ found → found ≢ verdict.Optimal → found ≢ verdict.WrongShape
      → TellsVerdict net files certificate status.Wrong (verdict_line net found)

-- the canonical file of a network
abbrev pub TellsFile : NetworkValue → Status → List ℕ → Type 0
TellsFile net s text = (s ≡ status.Done) × (text ≡ canonical_file net)

-- what each job tells of its network, and with which status; the replies of a run are beside this
abbrev pub TellsBy : Task → NetworkValue → Option Folder → Status → List ℕ → Type 0
TellsBy (runs m) net files = TellsNoPlan net m
TellsBy (plans m) net files = TellsPlanned net m (λ plan text. text ≡ plan_text net plan)
TellsBy (checks certificate) net files = TellsVerdict net files certificate
TellsBy prints net files = TellsFile net
TellsBy (runs_made m number) net files = TellsPlanned net m (λ plan text. MadeRun net plan number text)
TellsBy (cuts leg groups) net files = CutsTold net leg groups
TellsBy (values leg) net files = ValuesTold net leg

abbrev pub TellsOf : Job → NetworkValue → Option Folder → Status → List ℕ → Type 0
TellsOf job = TellsBy job.task

-- a status with which a job tells of its network
abbrev pub IsOfNetwork : Status → Type 0
IsOfNetwork status.Done = ⊤
IsOfNetwork status.Wrong = ⊤
IsOfNetwork status.Refused = ⊤
IsOfNetwork status.Overflow = ⊤
IsOfNetwork status.NoLeg = ⊤
IsOfNetwork status.NoClass = ⊤
IsOfNetwork _ = ⊥

-- a text, the status that goes with it, and why it is told: the words ask for nothing; the file of their job is refused; it is what the
-- job tells of its network; or the files failed
pub data Tells (asked : Option Job) (before after : Outside) : Status → List ℕ → Type 0 where
  usage : asked ≡ None → Tells asked before after status.Usage usage_line
  refused : (refusal : Refusal) → Refuses asked before refusal → Tells asked before after status.Refused (refusal_line refusal)
  of_network : {s : Status} {text : List ℕ} (job : Job) (net : NetworkValue) → Opens asked job before net → IsOfNetwork s
      → TellsOf job net before.files s text → Tells asked before after s text
  file_fault : (job : Job) → asked ≡ Some job → NamesFile job → FilesFailed before after
      → Tells asked before after status.FileFault file_fault_line

-- it was written whole, or cut; the stream was not touched
pub record Told (asked : Option Job) (before after : Outside) (s : Status) : Type 0 where
  pub text : List ℕ
  pub tells : Tells asked before after s text
  pub wrote : Wrote before after text
  pub left : LeftStream before after

pub record ToldCut (asked : Option Job) (before after : Outside) : Type 0 where
  pub status : Status
  pub text : List ℕ
  pub tells : Tells asked before after status text
  pub wrote : WroteCut before after text
  pub left : LeftStream before after
