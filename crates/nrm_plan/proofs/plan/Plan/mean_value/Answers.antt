use Rattle.std.proofs.Common.{◌≡◌, ◌∙◌, Some, ap, sym}
use Rattle.nrm_plan.specs.Plans.{PlanValue}
use Rattle.nrm_plan.proofs.Plans.{plan-shape}
use Rattle.nrm_plan.proofs.plan.Plan.mean_value.Goals as goal

pub mean_value-requires : goal.mean_value-requires
mean_value-requires c =
    let has : c.args.self.now.certificate ≡ Some c.in_ok-certificate.certificate.now = ap (λ (p : PlanValue). p.certificate) (sym c.self.view_is) ∙ sym c.in_ok-certificate.ensures.value in
    plan-shape c.args.net.now c.args.self.now c.in_ok-certificate.certificate.now c.limits_hold.ensures.limits c.requires has
