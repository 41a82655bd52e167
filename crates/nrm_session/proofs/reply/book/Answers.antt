-- A request is a step of a `book` line.
use Rattle.std.proofs.Common.{◌∙◌, ap}
use Rattle.nrm_model.specs.Network.{NetworkValue, product_named}
use Rattle.nrm_session.proofs.Steps.{fare-refuses, leg-refuses}
use Rattle.nrm_session.proofs.reply.book.Goals as goal

pub returns-in-Leg-clause-step : goal.returns-in-Leg-clause-step
returns-in-Leg-clause-step c =
    let found = c.in-Some.ensures.number ∙ ap (λ (net : NetworkValue). product_named net c.args.product.now) c.network.ensures.network in
    leg-refuses c.args.controller.now c.request.new.self c.args.product.now c.in-Some.product c.args.party c.in-Leg.leg found
    c.in-Leg.ensures.answer c.in-Leg.ensures.changed c.in-Leg.ensures.state

pub returns-in-Fare-clause-step : goal.returns-in-Fare-clause-step
returns-in-Fare-clause-step c =
    let found = c.in-Some.ensures.number ∙ ap (λ (net : NetworkValue). product_named net c.args.product.now) c.network.ensures.network in
    fare-refuses c.args.controller.now c.request.new.self c.args.product.now c.in-Some.product c.args.party found c.in-Fare.ensures.answer
    c.in-Fare.ensures.changed c.in-Fare.ensures.state
