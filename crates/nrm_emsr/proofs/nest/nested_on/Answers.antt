-- One product more joins the nest.
use Rattle.std.proofs.Common.{ℕ, Bool, List, ◌≡◌, ◌∙◌, ◌+◌, ◌<◌, ◌≤◌, [], ◌∷◌, ◌++◌, get_or, length, map, take, sym, ap, subst, arith, true, All, length-append}
use Rattle.std.specs.List.{range_with_len}
use Rattle.std.proofs.lemmas.List.{map-append, take_more}
use Rattle.std.proofs.lemmas.List.Elements.{All-push}
use Rattle.std.proofs.lemmas.List.FromFn.{length-range_with_len}
use Rattle.std.proofs.lemmas.List.Sums.{count_by-le-length, length-filter}
use Rattle.nrm_model.specs.Inventory.{inventory_of, products_on, uses_leg}
use Rattle.nrm_model.specs.Network.{NetworkValue}
use Rattle.nrm_model.proofs.Inventories.{legs-count, on-leg-uses, on-leg-within}
use Rattle.nrm_emsr.specs.declared.nest.Nested.{Nested}
use Rattle.nrm_emsr.specs.Inner.Nest.{IsKnown, nested_of}
use Rattle.nrm_emsr.proofs.nest.nested_on.Goals as goal

-- the products on a leg are no more than all
few-on-leg : (net : NetworkValue) (i : ℕ) → length (products_on (inventory_of net) i) ≤ length net.products
few-on-leg net i =
    let test : ℕ → Bool = uses_leg (inventory_of net) i in
    let numbers : List ℕ = range_with_len 0 (length (inventory_of net).legs) in
    omega (arith, length-filter test numbers, count_by-le-length test numbers, length-range_with_len 0 (length (inventory_of net).legs), legs-count net)

pub nested_at-requires-clause-product : goal.nested_at-requires-clause-product
nested_at-requires-clause-product c =
    subst (λ (js : List ℕ). All (λ j. j < length c.args.net.now.products) js) (sym c.products_on-product-items.ensures) (on-leg-within c.args.net.now c.args.leg) c.loop-product.product-index 0 c.loop-product-test.true

pub nested_at-requires-clause-uses : goal.nested_at-requires-clause-uses
nested_at-requires-clause-uses c =
    subst (λ (js : List ℕ). All (λ j. uses_leg (inventory_of c.args.net.now) c.args.leg j ≡ true) js) (sym c.products_on-product-items.ensures) (on-leg-uses c.args.net.now c.args.leg) c.loop-product.product-index 0 c.loop-product-test.true

pub loop-product-preserved : goal.loop-product-preserved
loop-product-preserved c =
    let net = c.args.net.now in
    let f : ℕ → Nested = nested_of net c.args.cert.now c.args.leg in
    let numbers : List ℕ = products_on (inventory_of net) c.args.leg in
    let k : ℕ = c.loop-product.product-index in
    let same = c.products_on-product-items.ensures in
    let short : k < length numbers = omega (arith, c.loop-product-test.true, ap length same) in
    let j : ℕ = get_or c.products_on-product-items.result.now k 0 in
    let x : Nested = c.nested_at.result in
    let items = c.in_ok-push.ensures.items in
    let is : x ≡ f j = λ i. record { product = c.nested_at.ensures.product i; bucket = c.nested_at.ensures.bucket i; fare = c.nested_at.ensures.fare i } in
    let more : map f (take (k + 1) numbers) ≡ map f (take k numbers) ++ f (get_or numbers k 0) ∷ [] = ap (map f) (take_more numbers k 0 short) ∙ map-append f (take k numbers) (get_or numbers k 0 ∷ []) in
    record {
      nest = items ∙ (λ n. c.loop-product.invariant.nest n ++ is n ∷ []) ∙ ap (λ (js : List ℕ). map f (take k numbers) ++ f (get_or js k 0) ∷ []) same ∙ sym more;
      few = omega (arith, ap length items, length-append c.loop-product.nest.items (x ∷ []), c.loop-product.invariant.few);
      known = subst (All (IsKnown (length net.products))) (sym items) (All-push (IsKnown (length net.products)) c.loop-product.nest.items x c.loop-product.invariant.known c.nested_at.ensures.known);
    }

pub returns-clause-few : goal.returns-clause-few
returns-clause-few c = omega (arith, c.limits_hold.ensures.limits.product_count, few-on-leg c.args.net.now c.args.leg, c.loop-product.invariant.few, c.loop-product.auto.product-index-end, ap length c.products_on-product-items.ensures)
