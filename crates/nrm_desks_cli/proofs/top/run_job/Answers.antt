use Rattle.std.proofs.Common.{Some, ap, refl, subst}
use Rattle.nrm_control.specs.Standing.{ControlValue}
use Rattle.nrm_common_cli.specs.Outside.{Outside, outside}
use Rattle.nrm_hub.specs.Hub.{HubValue}
use Rattle.nrm_desks_cli.specs.Ends.{Begins, streams_at}
use Rattle.nrm_desks_cli.specs.Inner.Parts.{job_in}
use Rattle.nrm_desks_cli.specs.Inner.Serving.{ServesTo}
use Rattle.nrm_session.proofs.ServedBy.{opened}
use Rattle.nrm_desks_cli.proofs.Ending.{serving-ends, unfailed-end, without-network, without-plan}
use Rattle.nrm_desks_cli.proofs.top.run_job.Goals as goal

pub returns-in-Err-clause-ends : goal.returns-in-Err-clause-ends
returns-in-Err-clause-ends g c = without-network (job_in c.args.job) _ _ refl c.in-Err.reason c.put_reason.result c.in-Err.ensures.opens c.in-Err.ensures.counts c.put_reason.ensures.puts

pub returns-in-Err-start-clause-ends : goal.returns-in-Err-start-clause-ends
returns-in-Err-start-clause-ends g c = without-plan (job_in c.args.job) _ _ refl c.in-Ok.net c.in-Ok.ensures.opens c.in-Err-start.why c.put_unplanned.result c.in-Err-start.ensures.fault c.put_unplanned.ensures.puts

pub returns-clause-ends : goal.returns-clause-ends
returns-clause-ends g c =
    let at = outside g.F.Files.contents g.F.Files.faults g.S.Source.coming g.S.Source.faults g.K.Sink.held g.K.Sink.faults in
    let before : Outside = at c.args.files.now c.args.source.now c.args.sink.now in
    let found : Outside = at c.open_network.new.files c.serve-end.new.source c.serve-end.new.sink in
    let after : Outside = at c.open_network.new.files c.serve-end.new.source c.end_serving.new.sink in
    let control : ControlValue = c.in-Ok-start.controller in
    let begins : Begins (Some (job_in c.args.job)) before = record {
      job = job_in c.args.job;
      asks = refl;
      net = c.in-Ok.net;
      opens = c.in-Ok.ensures.opens;
      plan = control.plan;
      planned = c.in-Ok-start.ensures.plan;
      control = control;
      is_control = c.in-Ok-start.ensures.sound;
      network = ap (λ (k : ControlValue). k.net) c.in-Ok-start.ensures.begins;
      represents = opened control c.in-Ok.net c.in-Ok-start.ensures.begins;
    } in
    let serves : ServesTo control (streams_at before) (streams_at found) c.serve-end.result =
    subst (λ (k : ControlValue). ServesTo k (streams_at before) (streams_at found) c.serve-end.result) (ap (λ (h : HubValue). h.register.control) c.new-hub.ensures)
    c.serve-end.ensures.serves in
    serving-ends (Some (job_in c.args.job)) before begins found after refl refl c.serve-end.result c.end_serving.result serves c.serve-end.ensures.sink c.end_serving.ensures.ends

pub returns-clause-sent : goal.returns-clause-sent
returns-clause-sent g c = λ unfailed nothing.
    c.end_serving.ensures.sent unfailed (c.serve-end.ensures.sent (unfailed-end c.serve-end.result _ _ _ _ c.end_serving.result c.end_serving.ensures.ends unfailed) nothing)
