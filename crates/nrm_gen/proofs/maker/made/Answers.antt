-- The parts that were drawn are a network within the limits, and that of the number.
use Rattle.std.proofs.Common.{◌∙◌}
use Rattle.nrm_gen.proofs.Within.{of-parts, parts-limited}
use Rattle.nrm_gen.proofs.maker.made.Goals as goal

pub new-requires : goal.new-requires
new-requires c =
    let number = c.args.number in
    let begun = c.new-draws.ensures in
    let legs = c.in_ok-legs.ensures.legs number begun in
    let after_legs = c.in_ok-legs.ensures.state number begun in
    let products = c.in_ok-products.ensures.products number after_legs in
    let demand = c.in_ok-demand.ensures.demand number (c.in_ok-products.ensures.state number after_legs) in
    parts-limited number _ _ _ legs products demand

pub returns-clause-network : goal.returns-clause-network
returns-clause-network c =
    let number = c.args.number in
    let begun = c.new-draws.ensures in
    let legs = c.in_ok-legs.ensures.legs number begun in
    let after_legs = c.in_ok-legs.ensures.state number begun in
    let products = c.in_ok-products.ensures.products number after_legs in
    let demand = c.in_ok-demand.ensures.demand number (c.in_ok-products.ensures.state number after_legs) in
    c.in_ok-network.ensures ∙ of-parts number _ _ _ legs products demand
