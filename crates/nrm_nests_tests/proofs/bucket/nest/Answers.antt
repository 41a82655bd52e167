use Rattle.std.proofs.Common.{◌∙◌, ◌<◌, length, sym, arith}
use Rattle.nrm_virtual.proofs.Prices.{leg-within}
use Rattle.nrm_virtual.proofs.Tables.{pair-in_table}
use Rattle.nrm_nests_tests.proofs.bucket.nest.Goals as goal

pub bucket_of-found-requires : goal.bucket_of-found-requires
bucket_of-found-requires c =
    let used = sym c.uses_leg.ensures ∙ c.if-uses_leg.true in
    let short : c.loop-product.product < length c.args.net.now.products = omega arith in
    pair-in_table c.args.net.now c.in_ok-cert.cert _ c.args.leg c.loop-product.product c.in_ok-table.ensures (leg-within c.args.net.now c.args.leg c.loop-product.product c.leg_count.ensures.limits short used) short used
