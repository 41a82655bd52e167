-- The reply that was put is that of the step.
use Rattle.nrm_session.specs.Answering.{reply_in}
use Rattle.nrm_session.proofs.Answered.{line-answered, line-cut}
use Rattle.nrm_session.proofs.reply.answer_line.Goals as goal

pub returns-clause-whole : goal.returns-clause-whole
returns-clause-whole g c =
    let carried = c.carry_out-reply in
    line-answered c.args.controller.now carried.new.controller c.args.command.now (reply_in carried.new.controller carried.result)
    (g.K.Sink.held c.args.sink.now) (g.K.Sink.held c.put_reply.new.sink)
    c.put_reply.result carried.ensures.step c.put_reply.ensures.whole

pub returns-clause-cut : goal.returns-clause-cut
returns-clause-cut g c =
    let carried = c.carry_out-reply in
    line-cut c.args.controller.now carried.new.controller c.args.command.now (reply_in carried.new.controller carried.result)
    (g.K.Sink.held c.args.sink.now) (g.K.Sink.held c.put_reply.new.sink)
    c.put_reply.result carried.ensures.step c.put_reply.ensures.cut
