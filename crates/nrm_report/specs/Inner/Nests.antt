-- A plan under virtual nesting, and the line of its protections.
use Rattle.std.specs.Prelude.{ℕ, ◌≡◌, length, List, [], Option, Some, None}
use Rattle.nrm_fraction.specs.Large.{size_limit}
use Rattle.nrm_model.specs.Network.{NetworkValue}
use Rattle.nrm_lp.specs.declared.certificate.Certificate.{Certificate}
use Rattle.nrm_lp.specs.Shape.{HasShape}
use Rattle.nrm_plan.specs.Nesting.{AreNestsOf, NestsValue}
use Rattle.nrm_plan.specs.Plans.{PlanValue}
use Rattle.nrm_report.specs.Texts.{protect_line}

-- the plan has this certificate, which has the network's shape, and its nests are those at the certificate's bid prices
pub record IsNested (net : NetworkValue) (cert : Certificate) (plan : PlanValue) : Type 0 where
  pub certificate : plan.certificate ≡ Some cert
  pub shape : HasShape size_limit (length net.products) (length net.legs) cert
  pub nests : (nests : NestsValue) × (plan.nests ≡ Some nests) × AreNestsOf net plan.period cert nests

-- the line of a leg's protections, where a plan has a certificate
abbrev pub protections_line_by : NetworkValue → ℕ → Option Certificate → ℕ → List ℕ
protections_line_by net period None leg = []
protections_line_by net period (Some cert) leg = protect_line net cert period leg

abbrev pub protections_line : NetworkValue → PlanValue → ℕ → List ℕ
protections_line net plan leg = protections_line_by net plan.period plan.certificate leg
