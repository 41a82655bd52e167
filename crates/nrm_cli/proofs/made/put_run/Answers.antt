use Rattle.std.proofs.Common.{inl, inr}
use Rattle.nrm_cli.proofs.PlanEnds.{lacks-plan}
use Rattle.nrm_cli.proofs.made.put_run.Goals as goal

pub returns-in-Ok-clause-puts : goal.returns-in-Ok-clause-puts
returns-in-Ok-clause-puts g c number made =
    let (planned, same) = c.in-Ok.ensures.planned in
    let begins = rw planned at c.start.ensures.begins in
    inl (c.in-Ok.controller.plan, rw planned at c.start.ensures.plan, rw same at (c.put_summary.ensures.puts c.args.net number begins made))

pub returns-in-Ok-clause-sent : goal.returns-in-Ok-clause-sent
returns-in-Ok-clause-sent g c =
    let (planned, same) = c.in-Ok.ensures.planned in
    rw same at c.put_summary.ensures.sent

pub returns-in-Ok-clause-later : goal.returns-in-Ok-clause-later
returns-in-Ok-clause-later g c =
    let (planned, same) = c.in-Ok.ensures.planned in
    rw same at c.put_summary.ensures.later

pub returns-in-Err-clause-puts : goal.returns-in-Err-clause-puts
returns-in-Err-clause-puts g c number made =
    inr (lacks-plan c.args.net c.args.mode _ _ _ _ c.start.result c.start.ensures.fault c.in-Err.told c.in-Err.ensures.told)
