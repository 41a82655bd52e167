use Rattle.nrm_control.proofs.Inventories.{own-legs}
use Rattle.nrm_account.proofs.largest.largest_party.Goals as goal

pub least_open-requires-clause-legs : goal.least_open-requires-clause-legs
least_open-requires-clause-legs c =
    own-legs c.network-net.result.now c.args.product c.product_at.result.now c.as_slice-legs.result.now c.product_at.ensures.product c.as_slice-legs.ensures c.product_at.ensures.limits.legs
