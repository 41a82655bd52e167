-- What the controller answers, with the revenue and the sum withheld, is a step of a `hindsight` line.
use Rattle.std.proofs.Common.{◌∙◌}
use Rattle.nrm_book.specs.Bookings.{revenue_of}
use Rattle.nrm_session.proofs.Steps.{looking-back-steps}
use Rattle.nrm_session.proofs.reply.look_back.Goals as goal

pub returns-clause-step : goal.returns-clause-step
returns-clause-step c =
    let revenue = c.revenue-revenue.ensures ∙ (λ k. revenue_of (c.book.ensures.book k).inventory (c.book.ensures.book k).bookings) in
    rw c.reply_looking_back.ensures
    (looking-back-steps c.args.controller.now c.hindsight.result c.revenue-revenue.result c.withheld-withheld.result c.hindsight.ensures.value
    c.hindsight.ensures.fault revenue c.withheld-withheld.ensures.withheld)
