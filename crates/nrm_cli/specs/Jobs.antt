-- What the words of the command line ask for.
use Rattle.std.specs.Prelude.{ℕ, ⊤, ◌≡◌, List, [], ◌∷◌, bytes_eq, codes, Option, Some, None, option_map, Ok, if◌then◌else◌}
use Rattle.std.specs.Int.{IsInRange}
use Rattle.nrm_edge.specs.Fetch.{Folder}
use Rattle.nrm_text.specs.Numbers.{whole_between}
use Rattle.nrm_text.specs.Names.{name_in}
use Rattle.nrm_model.specs.Network.{NetworkValue}
use Rattle.nrm_model.specs.declared.mode.Mode.{Mode}
use Rattle.nrm_common_cli.specs.Refusals.{network_under}
use Rattle.nrm_common_cli.specs.Words.{mode_of}
use Rattle.nrm_cluster.specs.declared.limits.TheConstants.{MOST_GROUPS}
use Rattle.nrm_gen.specs.MadeNetwork.{made_network}
use Rattle.nrm_cli.specs.declared.words.Asked.{Asked}
use Rattle.nrm_cli.specs.declared.words.Asked.TheVariants as asked
use Rattle.nrm_cli.specs.declared.told.Telling.{Telling}
use Rattle.nrm_cli.specs.declared.told.Telling.TheVariants as telling
use Rattle.nrm_cli.specs.declared.words.TheConstants.{LAST_MADE}

-- what is done on a network: the controller answers the stream in a mode; its opening plan in a mode is written; the certificate of a file
-- is checked against it; it is printed; the controller answers in a mode the commands that are made of a number; the fares on a leg are cut
-- into at most so many groups; and the seats of a leg are valued
pub data Task : Type 0 where
  runs : Mode → Task
  plans : Mode → Task
  checks : List ℕ → Task
  prints : Task
  runs_made : Mode → ℕ → Task
  cuts : List ℕ → ℕ → Task
  values : List ℕ → Task

-- what the network of a job is read or made of: a file, or a number
pub data Origin : Type 0 where
  of_file : List ℕ → Origin
  of_number : ℕ → Origin

-- a job: where its network is from, and what is done on it
pub record Job : Type 0 where
  pub origin : Origin
  pub task : Task

abbrev pub on_file : List ℕ → Task → Job
on_file file task = record { origin = of_file file; task = task }

abbrev pub run_file : Mode → List ℕ → Job
run_file m file = on_file file (runs m)

abbrev pub plan_file : Mode → List ℕ → Job
plan_file m file = on_file file (plans m)

abbrev pub check_file : List ℕ → List ℕ → Job
check_file file certificate = on_file file (checks certificate)

abbrev pub print_file : List ℕ → Job
print_file file = on_file file prints

abbrev pub run_made : Mode → ℕ → Job
run_made m number = record { origin = of_number number; task = runs_made m number }

abbrev pub cut_leg : List ℕ → List ℕ → ℕ → Job
cut_leg file leg groups = on_file file (cuts leg groups)

abbrev pub value_leg : List ℕ → List ℕ → Job
value_leg file leg = on_file file (values leg)

-- the network of an origin: that of its file, where the files are told; or that which is made of a number, whatever the files
abbrev pub HasNetworkFrom : Origin → Option Folder → NetworkValue → Type 0
HasNetworkFrom (of_file file) told net = (files : Folder) × (told ≡ Some files) × (network_under (files file) ≡ Ok net)
HasNetworkFrom (of_number number) told net = net ≡ made_network number

abbrev pub HasNetwork : Job → Option Folder → NetworkValue → Type 0
HasNetwork job told net = HasNetworkFrom job.origin told net

-- a job that names a file, and one that takes the stream
abbrev pub IsFile : Origin → Type 0
IsFile (of_file file) = ⊤
IsFile (of_number number) = ⊥

abbrev pub NamesFile : Job → Type 0
NamesFile job = IsFile job.origin

abbrev pub IsRun : Task → Type 0
IsRun (runs m) = ⊤
IsRun _ = ⊥

abbrev pub TakesStream : Job → Type 0
TakesStream job = IsRun job.task

-- a made run, where its mode and its number are good
abbrev pub made_run_of : Option Mode → Option ℕ → Option Job
made_run_of (Some m) (Some number) = Some (run_made m number)
made_run_of (Some m) None = None
made_run_of None number = None

-- thresholds of a leg, and its values, where the name of the leg is one and the number of groups is good
abbrev pub cut_of : List ℕ → Option (List ℕ) → Option ℕ → Option Job
cut_of file (Some leg) (Some groups) = Some (cut_leg file leg groups)
cut_of file (Some leg) None = None
cut_of file None groups = None

abbrev pub valuing_of : List ℕ → Option (List ℕ) → Option Job
valuing_of file leg = option_map (value_leg file) leg

-- `run MODE FILE`, `plan MODE FILE`, `check FILE CERT`, `print FILE`, `gen MODE NUMBER`, of a whole number up to 4,294,967,295,
-- `cuts FILE LEG GROUPS`, of a whole number from 1 to 10, and `dp FILE LEG`; all other words ask for nothing
abbrev pub job_of : List (List ℕ) → Option Job
job_of [] = None
job_of (verb ∷ []) = None
job_of (verb ∷ file ∷ []) = if bytes_eq verb (codes "print") then Some (print_file file) else None
job_of (verb ∷ second ∷ third ∷ []) =
    if bytes_eq verb (codes "run") then option_map (λ m. run_file m third) (mode_of second)
    else if bytes_eq verb (codes "plan") then option_map (λ m. plan_file m third) (mode_of second)
    else if bytes_eq verb (codes "check") then Some (check_file second third)
    else if bytes_eq verb (codes "gen") then made_run_of (mode_of second) (whole_between 0 LAST_MADE third)
    else if bytes_eq verb (codes "dp") then valuing_of second (name_in third)
    else None
job_of (verb ∷ second ∷ third ∷ fourth ∷ []) =
    if bytes_eq verb (codes "cuts") then cut_of second (name_in third) (whole_between 1 MOST_GROUPS fourth) else None
job_of (verb ∷ second ∷ third ∷ fourth ∷ fifth ∷ more) = None

-- a job as the code holds it
abbrev pub task_of : Telling → Task
task_of (telling.Plan mode) = plans mode
task_of (telling.Check certificate) = checks certificate.now
task_of telling.Print = prints
task_of (telling.Cuts leg groups) = cuts leg groups
task_of (telling.Values leg) = values leg

abbrev pub telling_of : List ℕ → Telling → Job
telling_of file t = on_file file (task_of t)

abbrev pub job_in : Asked → Job
job_in (asked.Run mode file) = run_file mode file.now
job_in (asked.Tell file t) = telling_of file.now t
job_in (asked.Made mode number) = run_made mode number

-- a job whose number of groups lies within its limits
abbrev pub IsWithin : Telling → Type 0
IsWithin (telling.Cuts leg groups) = IsInRange 1 MOST_GROUPS groups
IsWithin _ = ⊤

abbrev pub AsksWithin : Asked → Type 0
AsksWithin (asked.Tell file t) = IsWithin t
AsksWithin _ = ⊤

-- the line that says how to call the program
abbrev pub usage_line : List ℕ
usage_line =
    codes "usage: nrm run MODE FILE, plan MODE FILE, check FILE CERT, print FILE, gen MODE NUMBER, cuts FILE LEG GROUPS, dp FILE LEG\n"
