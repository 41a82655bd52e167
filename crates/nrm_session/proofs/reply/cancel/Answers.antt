-- A cancellation is a step of a `cancel` line.
use Rattle.nrm_session.proofs.Steps.{cancel-steps}
use Rattle.nrm_session.proofs.reply.cancel.Goals as goal

pub returns-in-Some-clause-step : goal.returns-in-Some-clause-step
returns-in-Some-clause-step c =
    cancel-steps c.args.controller.now c.cancel.new.self c.args.number c.in-Some.refund c.in-Some.ensures.refund c.in-Some.ensures.removed
    c.in-Some.ensures.state
