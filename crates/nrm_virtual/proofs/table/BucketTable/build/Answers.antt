-- One leg more is one row more, and all rows are the table.
use Rattle.std.proofs.Common.{ℕ, ◌≡◌, ◌+◌, ◌*◌, ◌∙◌, filter, length, replicate, sym, ap, subst, arith}
use Rattle.std.specs.List.{range_with_len}
use Rattle.nrm_model.specs.Inventory.{inventory_of, uses_leg}
use Rattle.nrm_model.proofs.Inventories.{legs-count}
use Rattle.nrm_virtual.specs.Buckets.{bucket_of}
use Rattle.nrm_virtual.specs.Inner.Written.{AreWritten, written}
use Rattle.nrm_virtual.specs.Table.{IsTableOf, table_in}
use Rattle.nrm_virtual.proofs.Written.{none-written, row-more}
use Rattle.nrm_virtual.proofs.Tables.{whole-table}
use Rattle.nrm_virtual.proofs.table.BucketTable.build.Goals as goal

pub loop-leg-init : goal.loop-leg-init
loop-leg-init c =
    let net = c.args.net.now in
    let uses = uses_leg (inventory_of net) in
    let f = bucket_of net c.args.cert.now in
    let nought : ℕ = 0 in
    let is = c.in_ok-buckets.ensures.items_if_clones_equal (λ y same. same) ∙ (λ n. replicate (c.leg_count.ensures.count n * c.product_count-products.ensures.count n) nought) in
    subst (AreWritten uses f (length net.legs) (length net.products) 0) (sym is) (none-written uses f (length net.legs) (length net.products))

pub loop-leg-preserved : goal.loop-leg-preserved
loop-leg-preserved c =
    let net = c.args.net.now in
    let uses = uses_leg (inventory_of net) in
    let f = bucket_of net c.args.cert.now in
    let wide : ℕ = length net.products in
    let leg : ℕ = c.loop-leg.leg in
    let is = c.put_leg.ensures ∙ ap (λ (n : ℕ). written (leg * wide) (f leg) (filter (uses leg) (range_with_len 0 n)) c.loop-leg.buckets.items) (legs-count net) in
    subst (AreWritten uses f (length net.legs) wide (leg + 1)) (sym is) (row-more uses f (length net.legs) wide leg c.loop-leg.buckets.items c.loop-leg.invariant (omega arith))

pub returns : goal.returns
returns c =
    let net = c.args.net.now in
    let buckets = c.loop-leg.buckets.items in
    let wide : ℕ = length net.products in
    let legs : c.loop-leg.leg ≡ length net.legs = omega arith in
    let whole = subst (λ (n : ℕ). AreWritten (uses_leg (inventory_of net)) (bucket_of net c.args.cert.now) (length net.legs) wide n buckets) legs c.loop-leg.invariant in
    subst (λ (n : ℕ). IsTableOf net c.args.cert.now (table_in n buckets)) (sym c.product_count-products.ensures.count) (whole-table net c.args.cert.now buckets (omega arith) whole)
