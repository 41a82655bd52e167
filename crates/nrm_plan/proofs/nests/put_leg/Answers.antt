-- One product more is one place more.
use Rattle.std.proofs.Common.{Vec, ℕ, List, ◌≡◌, ◌<◌, ◌≤◌, ◌∙◌, ◌+◌, ◌*◌, All, get_or, length, map, set, take, true, sym, ap, subst, arith}
use Rattle.std.specs.declared.alloc.Global.{Global}
use native.Mathlib.Nat.{mul-le-mul_right}
use Rattle.std.proofs.lemmas.List.{take_more}
use Rattle.nrm_model.specs.Inventory.{inventory_of, products_on, uses_leg}
use Rattle.nrm_model.proofs.Inventories.{on-leg-uses, on-leg-within}
use Rattle.nrm_virtual.specs.Inner.Written.{written}
use Rattle.nrm_virtual.proofs.Written.{length-written, written-more}
use Rattle.nrm_plan.specs.Inner.Protected.{protected_at}
use Rattle.nrm_plan.specs.Nesting.{NestsValue}
use Rattle.nrm_plan.proofs.nests.put_leg.Goals as goal

pub protected_at-requires-clause-product : goal.protected_at-requires-clause-product
protected_at-requires-clause-product c =
    subst (λ (js : List ℕ). All (λ j. j < length c.args.net.now.products) js) (sym c.products_on-product-items.ensures) (on-leg-within c.args.net.now c.args.leg) c.loop-product.product-index 0 c.loop-product-test.true

pub protected_at-requires-clause-uses : goal.protected_at-requires-clause-uses
protected_at-requires-clause-uses c =
    subst (λ (js : List ℕ). All (λ j. uses_leg (inventory_of c.args.net.now) c.args.leg j ≡ true) js) (sym c.products_on-product-items.ensures) (on-leg-uses c.args.net.now c.args.leg) c.loop-product.product-index 0 c.loop-product-test.true

pub index_mut-requires : goal.index_mut-requires
index_mut-requires c =
    let net = c.args.net.now in
    let short = subst (λ (js : List ℕ). All (λ j. j < length net.products) js) (sym c.products_on-product-items.ensures) (on-leg-within net c.args.leg) c.loop-product.product-index 0 c.loop-product-test.true in
    let leg : (c.args.leg + 1) * length net.products ≤ length net.legs * length net.products = mul-le-mul_right (length net.products) (omega (arith, c.requires.leg)) in
    let nests : NestsValue = record { buckets = c.args.buckets.now; protections = map (λ (v : Vec ℕ Global). v.items) c.args.protections.now } in
    let long = ap length c.loop-product.invariant ∙ length-written (c.args.leg * length net.products) (protected_at nests c.args.leg) (take c.loop-product.product-index (products_on (inventory_of net) c.args.leg)) c.args.protected.now.items ∙ c.requires.long in
    rw c.product_count.ensures.count (omega (arith, short, leg, long))

pub loop-product-preserved : goal.loop-product-preserved
loop-product-preserved c =
    let numbers : List ℕ = products_on (inventory_of c.args.net.now) c.args.leg in
    let first : ℕ = c.args.leg * length c.args.net.now.products in
    let nests : NestsValue = record { buckets = c.args.buckets.now; protections = map (λ (v : Vec ℕ Global). v.items) c.args.protections.now } in
    let f : ℕ → ℕ = protected_at nests c.args.leg in
    let k : ℕ = c.loop-product.product-index in
    let same = c.products_on-product-items.ensures in
    let short : k < length numbers = omega (arith, c.loop-product-test.true, ap length same) in
    let j : ℕ = get_or numbers k 0 in
    let before = c.loop-product.invariant in
    (λ n. set (before n) (c.args.leg * c.product_count.ensures.count n + get_or (same n) k 0) (c.protected_at.ensures n))
    ∙ ap (λ (i : ℕ). set (written first f (take k numbers) c.args.protected.now.items) (first + j) (f i)) (ap (λ (js : List ℕ). get_or js k 0) same)
    ∙ sym (written-more first f (take k numbers) j c.args.protected.now.items)
    ∙ ap (λ (js : List ℕ). written first f js c.args.protected.now.items) (sym (take_more numbers k 0 short))
