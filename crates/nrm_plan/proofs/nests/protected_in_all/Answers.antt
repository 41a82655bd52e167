-- One leg more is one row more.
use Rattle.std.proofs.Common.{Vec, ℕ, ◌≡◌, ◌+◌, ◌*◌, ◌∙◌, filter, length, map, replicate, sym, ap, subst, arith}
use Rattle.std.specs.List.{range_with_len}
use Rattle.std.specs.declared.alloc.Global.{Global}
use Rattle.nrm_model.specs.Inventory.{inventory_of, uses_leg}
use Rattle.nrm_model.proofs.Inventories.{legs-count}
use Rattle.nrm_virtual.specs.Inner.Written.{AreWritten, written}
use Rattle.nrm_virtual.proofs.Written.{none-written, row-more}
use Rattle.nrm_plan.specs.Inner.Protected.{protected_at}
use Rattle.nrm_plan.specs.Nesting.{NestsValue}
use Rattle.nrm_plan.proofs.nests.protected_in_all.Goals as goal

pub loop-leg-init : goal.loop-leg-init
loop-leg-init c =
    let net = c.args.net.now in
    let uses = uses_leg (inventory_of net) in
    let nests : NestsValue = record { buckets = c.args.buckets.now; protections = map (λ (v : Vec ℕ Global). v.items) c.args.protections.now } in
    let nought : ℕ = 0 in
    let is = c.in_ok-protected.ensures.items_if_clones_equal (λ y same. same) ∙ (λ n. replicate (c.leg_count.ensures.count n * c.product_count.ensures.count n) nought) in
    subst (AreWritten uses (protected_at nests) (length net.legs) (length net.products) 0) (sym is) (none-written uses (protected_at nests) (length net.legs) (length net.products))

pub loop-leg-preserved : goal.loop-leg-preserved
loop-leg-preserved c =
    let net = c.args.net.now in
    let uses = uses_leg (inventory_of net) in
    let nests : NestsValue = record { buckets = c.args.buckets.now; protections = map (λ (v : Vec ℕ Global). v.items) c.args.protections.now } in
    let f = protected_at nests in
    let wide : ℕ = length net.products in
    let leg : ℕ = c.loop-leg.leg in
    let is = c.put_leg.ensures ∙ ap (λ (n : ℕ). written (leg * wide) (f leg) (filter (uses leg) (range_with_len 0 n)) c.loop-leg.protected.items) (legs-count net) in
    subst (AreWritten uses f (length net.legs) wide (leg + 1)) (sym is) (row-more uses f (length net.legs) wide leg c.loop-leg.protected.items c.loop-leg.invariant (omega arith))

pub returns : goal.returns
returns c =
    let net = c.args.net.now in
    let nests : NestsValue = record { buckets = c.args.buckets.now; protections = map (λ (v : Vec ℕ Global). v.items) c.args.protections.now } in
    let legs : c.loop-leg.leg ≡ length net.legs = omega arith in
    subst (λ (n : ℕ). AreWritten (uses_leg (inventory_of net)) (protected_at nests) (length net.legs) (length net.products) n c.loop-leg.protected.items) legs c.loop-leg.invariant
