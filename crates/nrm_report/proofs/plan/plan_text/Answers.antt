use Rattle.std.proofs.Common.{◌≡◌, ◌∙◌, Some, sym}
use Rattle.nrm_plan.proofs.Plans.{plan-shape}
use Rattle.nrm_report.proofs.NestLines.{nested-plan}
use Rattle.nrm_report.proofs.plan.plan_text.Goals as goal

pub certificate_text-requires : goal.certificate_text-requires
certificate_text-requires g c =
    let has : c.args.plan.now.certificate ≡ Some c.in_default-Some.certificate.now = search in
    plan-shape c.args.net.now c.args.plan.now c.in_default-Some.certificate.now c.limits_hold.ensures.limits c.requires has

pub nested_text-requires : goal.nested_text-requires
nested_text-requires g c =
    let has : c.args.plan.now.certificate ≡ Some c.in-Davn-Some.certificate.now = search in
    nested-plan c.args.net.now c.args.plan.now c.in-Davn-Some.certificate.now c.limits_hold.ensures.limits c.requires (sym c.mode.ensures ∙ c.in-Davn-Some.is-0) has
