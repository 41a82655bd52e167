-- The leg that is found is told.
use Rattle.std.proofs.Common.{◌∙◌, ap}
use Rattle.nrm_model.specs.Network.{NetworkValue, leg_named}
use Rattle.nrm_session.proofs.Steps.{leg-steps}
use Rattle.nrm_session.proofs.reply.tell_leg.Goals as goal

pub returns-in-Some-clause-step : goal.returns-in-Some-clause-step
returns-in-Some-clause-step c =
    leg-steps c.args.controller.now c.args.name.now c.in-Some.leg (c.in-Some.ensures.number
    ∙ ap (λ (net : NetworkValue). leg_named net c.args.name.now) c.network.ensures.network)
