-- A plan with nests has the product's bucket and the protection above it; one without keeps nothing.
use Rattle.std.proofs.Common.{◌∙◌, ap, refl, sym}
use Rattle.nrm_virtual.specs.Buckets.{bucket_of}
use Rattle.nrm_virtual.proofs.Tables.{pair-found, pair-in_table}
use Rattle.nrm_plan.specs.Plans.{PlanValue}
use Rattle.nrm_plan.proofs.Looked.{looked-up, plan-nests}
use Rattle.nrm_plan.proofs.plan.Plan.protected_from.Goals as goal

pub protected_from-requires : goal.protected_from-requires
protected_from-requires c =
    let (cert, are, protected) = plan-nests c.args.net.now c.args.self.now c.in-Some.nests.now c.requires.plan (ap (λ (p : PlanValue). p.nests) (sym c.self.view_is) ∙ sym c.in-Some.ensures.value) in
    pair-in_table c.args.net.now cert c.in-Some.nests.now.buckets c.args.leg c.args.product are.buckets c.requires.leg c.requires.product c.requires.uses

pub returns-in-Some : goal.returns-in-Some
returns-in-Some c =
    let (cert, are, protected) = plan-nests c.args.net.now c.args.self.now c.in-Some.nests.now c.requires.plan (ap (λ (p : PlanValue). p.nests) (sym c.self.view_is) ∙ sym c.in-Some.ensures.value) in
    let bucket = bucket_of c.args.net.now cert c.args.leg c.args.product in
    c.protected_from.ensures (bucket_of c.args.net.now cert c.args.leg c.args.product) (pair-found c.args.net.now cert c.in-Some.nests.now.buckets c.args.leg c.args.product are.buckets c.requires.leg c.requires.product c.requires.uses)
    ∙ looked-up c.args.net.now c.args.self.now.period cert c.in-Some.nests.now are c.args.leg c.args.product c.requires.leg (bucket_of c.args.net.now cert c.args.leg c.args.product) refl
    ∙ sym (protected c.args.leg c.args.product)
