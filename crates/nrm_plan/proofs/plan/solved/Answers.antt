use Rattle.std.proofs.Common.{length}
use Rattle.nrm_fraction.specs.Large.{size_limit}
use Rattle.nrm_virtual.proofs.Prices.{prices-of_shape}
use Rattle.nrm_plan.proofs.Plans.{shape-of-network}
use Rattle.nrm_plan.proofs.plan.solved.Goals as goal

pub build-requires-clause-prices : goal.build-requires-clause-prices
build-requires-clause-prices c =
    prices-of_shape size_limit (length c.args.net.now.products) (length c.args.net.now.legs) c.in_ok-certificate.certificate
    (shape-of-network c.args.net.now c.args.left.now c.args.period c.in_ok-certificate.certificate c.requires.left.legs c.in_ok-certificate.ensures.certified.shape)
