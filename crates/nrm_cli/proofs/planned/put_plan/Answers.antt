-- The plan's text was cut.
use Rattle.std.proofs.Common.{inl, inr, refl}
use Rattle.nrm_cli.proofs.planned.put_plan.Goals as goal

pub returns-clause-puts : goal.returns-clause-puts
returns-clause-puts g c =
    let (is, same) = c.in-Ok.ensures.planned in
    let plan = rw is at c.opening.ensures.plan in
    let cut = rw same at c.in-Err-send_plan.ensures.cut in
    let rose = rw same at c.in-Err-send_plan.ensures.cause.failed in
    inl (c.in-Ok.plan, plan, inr (refl, cut, rose))
