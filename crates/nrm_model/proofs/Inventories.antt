-- What a network's inventory has of a leg or a product: one that was found, and one by its number.
use Rattle.std.proofs.Common.{ℕ, ◌≡◌, ◌∙◌, ◌<◌, [], All, map, slice_get, unwrap_or, option_map, Some, true, sym, ap, subst, ◌≤◌, length}
use Rattle.std.proofs.lemmas.Option.{get_or_from_slice_get, slice_get-map, unwrap_or-slice_get}
use Rattle.std.proofs.Math.ListN.{get_or-map}
use Rattle.std.proofs.lemmas.List.{get_or_past, length-map}
use Rattle.std.proofs.lemmas.List.Elements.{All-filter, filter_passes}
use Rattle.std.specs.List.{range_with_len}
use Rattle.nrm_number.proofs.Ranges.{below-range}
use Rattle.nrm_model.specs.declared.leg.Leg.{Leg}
use Rattle.nrm_model.specs.declared.product.Product.{Product}
use Rattle.nrm_model.specs.Inventory.{inventory_of, legs_of, fare_of, authorised_of, products_on, uses_leg}
use Rattle.nrm_model.specs.Network.{NetworkValue, leg_of, product_of}

pub product_of-found : (net : NetworkValue) (j : ℕ) (product : Product) → Some product ≡ slice_get net.products j → product_of net j ≡ product
product_of-found net j product is = ap (λ o. unwrap_or o (record { name = []; fare = 0; refund = 0; legs = [] })) (sym is)

pub leg_of-found : (net : NetworkValue) (i : ℕ) (leg : Leg) → Some leg ≡ slice_get net.legs i → leg_of net i ≡ leg
leg_of-found net i leg is = ap (λ o. unwrap_or o (record { name = []; seats = 0; authorised = 0; cuts = [] })) (sym is)

pub legs_of-product : (net : NetworkValue) (j : ℕ) (product : Product) → Some product ≡ slice_get net.products j → legs_of (inventory_of net) j ≡ product.legs
legs_of-product net j product is =
    ap (λ o. unwrap_or o []) (slice_get-map (λ (p : Product). p.legs) net.products j ∙ ap (option_map (λ (p : Product). p.legs)) (sym is))

pub fare_of-product : (net : NetworkValue) (j : ℕ) (product : Product) → Some product ≡ slice_get net.products j → product.fare ≡ fare_of (inventory_of net) j
fare_of-product net j product is =
    sym (get_or_from_slice_get (map (λ (p : Product). p.fare) net.products) j product.fare 0 (slice_get-map (λ (p : Product). p.fare) net.products j ∙ ap (option_map (λ (p : Product). p.fare)) (sym is)))

-- ---- by number, past the last one too
abbrev no_leg : Leg
no_leg = record { name = []; seats = 0; authorised = 0; cuts = [] }

abbrev no_product : Product
no_product = record { name = []; fare = 0; refund = 0; legs = [] }

pub authorised-are : (net : NetworkValue) (i : ℕ) → authorised_of (inventory_of net) i ≡ (leg_of net i).authorised
authorised-are net i = get_or-map (λ (leg : Leg). leg.authorised) net.legs i no_leg ∙ ap (λ (leg : Leg). leg.authorised) (sym (unwrap_or-slice_get net.legs i no_leg))

pub fare-is : (net : NetworkValue) (j : ℕ) → fare_of (inventory_of net) j ≡ (product_of net j).fare
fare-is net j = get_or-map (λ (product : Product). product.fare) net.products j no_product ∙ ap (λ (product : Product). product.fare) (sym (unwrap_or-slice_get net.products j no_product))

pub legs-are : (net : NetworkValue) (j : ℕ) → legs_of (inventory_of net) j ≡ (product_of net j).legs
legs-are net j =
    unwrap_or-slice_get (inventory_of net).legs j []
    ∙ get_or-map (λ (product : Product). product.legs) net.products j no_product
    ∙ ap (λ (product : Product). product.legs) (sym (unwrap_or-slice_get net.products j no_product))

pub fare-past : (net : NetworkValue) (j : ℕ) → length net.products ≤ j → (product_of net j).fare ≡ 0
fare-past net j past = ap (λ (product : Product). product.fare) (unwrap_or-slice_get net.products j no_product ∙ get_or_past net.products j no_product past)

-- there are as many
pub authorised-count : (net : NetworkValue) → length (inventory_of net).authorised ≡ length net.legs
authorised-count net = length-map net.legs (λ (leg : Leg). leg.authorised)

pub fares-count : (net : NetworkValue) → length (inventory_of net).fares ≡ length net.products
fares-count net = length-map net.products (λ (product : Product). product.fare)

pub legs-count : (net : NetworkValue) → length (inventory_of net).legs ≡ length net.products
legs-count net = length-map net.products (λ (product : Product). product.legs)

-- ---- the products that use a leg
pub on-leg-within : (net : NetworkValue) (i : ℕ) → All (λ j. j < length net.products) (products_on (inventory_of net) i)
on-leg-within net i =
    let Below : ℕ → Type 0 = λ n. All (λ j. j < n) (products_on (inventory_of net) i) in
    subst Below (legs-count net) (All-filter (uses_leg (inventory_of net) i) (λ j. j < length (inventory_of net).legs) (range_with_len 0 (length (inventory_of net).legs)) (below-range (length (inventory_of net).legs)))

pub on-leg-uses : (net : NetworkValue) (i : ℕ) → All (λ j. uses_leg (inventory_of net) i j ≡ true) (products_on (inventory_of net) i)
on-leg-uses net i k d short = filter_passes (uses_leg (inventory_of net) i) (range_with_len 0 (length (inventory_of net).legs)) k d short
