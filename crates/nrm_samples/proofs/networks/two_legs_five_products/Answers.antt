-- The parts are those of the sample, which is within the limits.
use Rattle.std.proofs.Common.{refl}
use Rattle.nrm_samples.specs.Networks.{two_legs_five_products}
use Rattle.nrm_samples.proofs.Within.{of_parts}
use Rattle.nrm_samples.proofs.networks.two_legs_five_products.Goals as goal

pub new-requires : goal.new-requires
new-requires c = of_parts two_legs_five_products refl c.in_ok-legs.legs.items c.in_ok-products.products.items c.in_ok-demand.demand.items
    c.in_ok-legs.ensures c.in_ok-products.ensures c.in_ok-demand.ensures.items
