use Rattle.std.proofs.Common.{inl, inr, refl}
use Rattle.nrm_cli.proofs.PlanEnds.{lacks-plan}
use Rattle.nrm_cli.proofs.served.serve_network.Goals as goal

pub returns-in-Ok-clause-serves : goal.returns-in-Ok-clause-serves
returns-in-Ok-clause-serves g c =
    let (planned, same) = c.in-Ok.ensures.planned in
    inl (record {
      start = c.in-Ok.controller;
      last = c.answer_stream.new.controller;
      ended = c.answer_stream.result;
      begun = rw planned at c.start.ensures.begins;
      planned = rw planned at c.start.ensures.plan;
      serves = rw same at c.answer_stream.ensures.serves;
      counts = rw same at c.answer_stream.ensures.counts;
      status = c.status_at.ensures;
    })

pub returns-in-Ok-clause-sent : goal.returns-in-Ok-clause-sent
returns-in-Ok-clause-sent g c =
    let (planned, same) = c.in-Ok.ensures.planned in
    rw c.status_at.ensures (rw same at c.answer_stream.ensures.sent)

pub returns-in-Err-clause-serves : goal.returns-in-Err-clause-serves
returns-in-Err-clause-serves g c =
    let (why, is, puts) = lacks-plan c.args.net c.args.mode _ _ _ _ c.start.result c.start.ensures.fault c.in-Err.told c.in-Err.ensures.told in
    inr (record { why = why; is = is; puts = puts; left = refl; source = refl; later = c.planned_or_told.ensures.later })
