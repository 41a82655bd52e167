use Rattle.nrm_virtual.proofs.Prices.{leg-within}
use Rattle.nrm_virtual.proofs.fares.bucket.Goals as goal

pub leg_at-requires : goal.leg_at-requires
leg_at-requires c = leg-within c.args.net.now c.args.leg c.args.product c.limits_hold.ensures.limits c.requires.product c.requires.uses
