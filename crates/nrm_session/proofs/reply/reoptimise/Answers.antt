-- What the controller answers is a step of a `reoptimise` line.
use Rattle.std.proofs.Common.{◌≤◌}
use Rattle.std.specs.Int.{IsInRange}
use Rattle.nrm_session.proofs.Steps.{replanned-steps}
use Rattle.nrm_session.proofs.reply.reoptimise.Goals as goal

pub returns-clause-step : goal.returns-clause-step
returns-clause-step c =
    let most : c.args.period ≤ c.args.controller.now.net.periods = rw (c.t.ensures, c.network.ensures.network) at c.if-period-t.false in
    let within : IsInRange 1 c.args.controller.now.net.periods c.args.period = (c.requires, most) in
    let made = c.reoptimise.ensures in
    rw c.reply_planned.ensures
    (replanned-steps c.args.controller.now c.reoptimise.new.self c.args.period within c.reoptimise.result made.plan made.value made.fault
    made.unchanged made.rest made.state)
