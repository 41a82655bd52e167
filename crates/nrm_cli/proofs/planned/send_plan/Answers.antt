use Rattle.nrm_cli.proofs.CutTexts.{flushed-cut}
use Rattle.nrm_report.specs.Texts.{plan_text}
use Rattle.nrm_cli.proofs.planned.send_plan.Goals as goal

pub returns-clause-cut : goal.returns-clause-cut
returns-clause-cut g c =
    flushed-cut (g.K.Sink.held c.args.sink.now) (g.K.Sink.held c.plan_text.new.sink) (g.K.Sink.held c.flush.new.self) (plan_text c.args.net.now c.args.plan.now) c.flush.result c.in_ok-plan_text.ensures.whole c.flush.ensures.bytes
