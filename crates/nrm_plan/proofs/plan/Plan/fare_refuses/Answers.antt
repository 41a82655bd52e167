use Rattle.std.proofs.Common.{◌≡◌, Some, length}
use Rattle.nrm_fraction.specs.Large.{size_limit}
use Rattle.nrm_virtual.proofs.Prices.{prices-of_shape}
use Rattle.nrm_plan.proofs.Plans.{plan-shape}
use Rattle.nrm_plan.proofs.plan.Plan.fare_refuses.Goals as goal

pub below_bid_prices-requires-clause-prices : goal.below_bid_prices-requires-clause-prices
below_bid_prices-requires-clause-prices c =
    let has : c.args.self.now.certificate ≡ Some c.in-Bid-Some.certificate.now = search in
    prices-of_shape size_limit (length c.args.net.now.products) (length c.args.net.now.legs) c.in-Bid-Some.certificate.now
    (plan-shape c.args.net.now c.args.self.now c.in-Bid-Some.certificate.now c.limits_hold.ensures.limits c.requires.plan has)
