-- What the solver finds for a network is found optimal from its text, and so is every other optimal certificate.
use Rattle.std.specs.Prelude.{ℕ, ◌≡◌, ◌++◌, List, Option, Some, Ok, codes, nat_abs, length}
use Rattle.nrm_edge.specs.Fetch.{Folder}
use Rattle.nrm_model.specs.Network.{NetworkValue}
use Rattle.nrm_model.specs.Limits.{IsNetwork}
use Rattle.nrm_model.specs.declared.mode.Mode.TheVariants as mode
use Rattle.nrm_fraction.specs.Large.{size_limit}
use Rattle.nrm_lp.specs.declared.certificate.Certificate.{Certificate}
use Rattle.nrm_lp.specs.Program.{IsOptimalAllocation, IsOptimalPrices, cost}
use Rattle.nrm_lp.specs.Tableau.{Tableau}
use Rattle.nrm_lp.specs.Certified.{sizes}
use Rattle.nrm_lp.specs.Closing.{certificate}
use Rattle.nrm_lp.specs.Overflow.{Closes}
use Rattle.nrm_lp.specs.Shape.{HasShape}
use Rattle.nrm_dlp.specs.Programs.{opening_program}
use Rattle.nrm_dual.specs.Conditions.{verdict_on}
use Rattle.nrm_dual.specs.Texts.{certificate_text}
use Rattle.nrm_dual.specs.declared.verdict.Verdict.TheVariants.{Optimal}
use Rattle.nrm_common_cli.specs.Outside.{Outside, FilesFailed, SinkFailed}
use Rattle.nrm_findings.specs.Certificates.{certificate_under}
use Rattle.nrm_cli.specs.Ends.{Ends, OrRanOut}
use Rattle.nrm_cli.specs.Jobs.{Job, check_file, plan_file}
use Rattle.nrm_cli.specs.declared.status.Status.{Status}
use Rattle.nrm_cli.specs.declared.status.Status.TheVariants as status

-- the text of the closing of a network's linear program is read as that closing, and no condition fails at it
abbrev pub OwnCertificatesPass : Type 0
OwnCertificatesPass = (net : NetworkValue) → IsNetwork net → (n : ℕ) (t : Tableau) → Closes size_limit (opening_program net) n t
    → (certificate_under net (Some (certificate_text net (certificate (opening_program net) t))) ≡ Ok (certificate (opening_program net) t))
    × (verdict_on (opening_program net) (certificate (opening_program net) t) ≡ Optimal)

-- where the linear program of a network isn't too large, no condition fails at a certificate of the network's shape whose allocation and
-- bid prices are optimal and whose value is the cost of its prices, whoever made it
abbrev pub OptimalCertificatesPass : Type 0
OptimalCertificatesPass = (net : NetworkValue) → IsNetwork net → (n : ℕ) (t : Tableau) → Closes size_limit (opening_program net) n t
    → (given : Certificate) → HasShape size_limit (length net.products) (length net.legs) given
    → IsOptimalAllocation (opening_program net) (nat_abs given.q) (sizes given.x)
    → IsOptimalPrices (opening_program net) (nat_abs given.den) (sizes given.p)
    → nat_abs given.value ≡ cost (opening_program net) (nat_abs given.den) (sizes given.p)
    → verdict_on (opening_program net) given ≡ Optimal

-- a call with `plan bid FILE` was done, where these were the contents of FILE, and it wrote this text
pub record WasPlanned (contents : Option (List ℕ)) (text : List ℕ) : Type 0 where
  pub before : Outside
  pub after : Outside
  pub file : List ℕ
  pub files : Folder
  pub held : List ℕ
  pub told : before.files ≡ Some files
  pub network_file : files file ≡ contents
  pub held_before : before.held ≡ Some held
  pub held_after : after.held ≡ Some (held ++ text)
  pub ends : Ends (Some (plan_file mode.Bid file)) before after status.Done

-- if the words ask for a certificate to be checked that is the text which such a call wrote of the same network file,
-- and neither files nor output failed, `optimal` is written, or memory ran out
abbrev pub PlannedPasses : Option Job → Outside → Outside → Status → Type 0
PlannedPasses asked before after s =
    (file certificate text : List ℕ) (files : Folder) → asked ≡ Some (check_file file certificate) → before.files ≡ Some files
    → files certificate ≡ Some text → WasPlanned (files file) text
    → ¬ (FilesFailed before after) → ¬ (SinkFailed before after)
    → OrRanOut before after s status.Done (codes "optimal\n")
