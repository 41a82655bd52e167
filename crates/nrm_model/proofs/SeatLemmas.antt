-- The least authorised seats of a few legs.
use Rattle.std.proofs.Common.{ℕ, ◌≡◌, ◌∙◌, ◌+◌, ◌<◌, ◌≤◌, List, [], ◌∷◌, length, get_or, fold, map, min, take, inl, inr, refl, sym, ap, arith}
use Rattle.std.proofs.lemmas.Bool.{cases_lt}
use Rattle.std.proofs.lemmas.List.{get_or-map, get_or_past, get_or_read, length-map, take-map, take_all}
use Rattle.std.proofs.lemmas.List.Sums.{fold_more}
use Rattle.std.proofs.lemmas.Option.{unwrap_or-slice_get}
use Rattle.nrm_model.specs.declared.leg.Leg.{Leg}
use Rattle.nrm_model.specs.declared.product.Product.{Product}
use Rattle.nrm_model.specs.Limits.{IsNetwork, IsProduct}
use Rattle.nrm_model.specs.Network.{NetworkValue, leg_of, product_of, least_of, least_authorised_of}

-- the least of some numbers and of one before them
least-from : (start x : ℕ) (xs : List ℕ) → fold min start (x ∷ xs) ≡ min start (least_of (x ∷ xs))
least-from start x [] = refl
least-from start x (y ∷ more) = let rest = least-from (min start x) y more in omega arith

least-first : (x : ℕ) (xs : List ℕ) → least_of (x ∷ xs) ≤ x
least-first x [] = omega arith
least-first x (y ∷ more) = omega arith

-- begun above them all, a running minimum ends at the least
pub least-whole : (start top : ℕ) (f : ℕ → ℕ) (xs : List ℕ) → top ≤ start → ((x : ℕ) → f x ≤ top) → 0 < length xs → (fold min start (map f xs) ≡ least_of (map f xs)) × (least_of (map f xs) ≤ top)
least-whole start top f [] high each some = absurd (omega arith)
least-whole start top f (x ∷ xs) high each some =
    let first = least-first (f x) (map f xs) in
    let all = least-from start (f x) (map f xs) in
    let bound = each x in
    (omega arith, omega arith)

-- one more number
pub least-more : (start : ℕ) (f : ℕ → ℕ) (xs : List ℕ) (i : ℕ) → i < length xs → fold min start (map f (take (i + 1) xs)) ≡ min (fold min start (map f (take i xs))) (f (get_or xs i 0))
least-more start f xs i short =
    let more = fold_more min start (map f xs) i (f 0) (rw length-map short) in
    rw (take-map f (i + 1) xs, take-map f i xs, get_or-map f xs i 0) at more

-- the leg and the product that were read are those of the number
pub leg-read : (net : NetworkValue) (i : ℕ) (leg : Leg) → i < length net.legs → leg ≡ get_or net.legs i leg → leg ≡ leg_of net i
leg-read net i leg short read = get_or_read net.legs i leg short read (record { name = []; seats = 0; authorised = 0; cuts = [] }) ∙ sym (unwrap_or-slice_get net.legs i (record { name = []; seats = 0; authorised = 0; cuts = [] }))

pub product-read : (net : NetworkValue) (j : ℕ) (product : Product) → j < length net.products → product ≡ get_or net.products j product → product ≡ product_of net j
product-read net j product short read = get_or_read net.products j product short read (record { name = []; fare = 0; refund = 0; legs = [] }) ∙ sym (unwrap_or-slice_get net.products j (record { name = []; fare = 0; refund = 0; legs = [] }))

-- within the limits a product has a leg, its legs are legs of the network, and no leg has more than 999 seats
pub product-within : (net : NetworkValue) → IsNetwork net → (j : ℕ) → j < length net.products → IsProduct (length net.legs) (product_of net j)
product-within net is j short = rw unwrap_or-slice_get (is.products j (record { name = []; fare = 0; refund = 0; legs = [] }) short)

pub authorised-within : (net : NetworkValue) → IsNetwork net → (i : ℕ) → (leg_of net i).authorised ≤ 999
authorised-within net is i = elim (cases_lt i (length net.legs)) [
  | inl short ↦
      let leg = is.legs i (record { name = []; seats = 0; authorised = 0; cuts = [] }) short in
      rw unwrap_or-slice_get leg.authorised
  | inr past ↦ rw (unwrap_or-slice_get, get_or_past net.legs i (record { name = []; seats = 0; authorised = 0; cuts = [] }) past) (omega arith)
]

-- one more leg of the product
pub least-step : (net : NetworkValue) (legs : List ℕ) (i least : ℕ) (leg : Leg) → i < length legs → leg ≡ leg_of net (get_or legs i 0) → least ≡ fold min 65535 (map (λ i. (leg_of net i).authorised) (take i legs)) → min least leg.authorised ≡ fold min 65535 (map (λ i. (leg_of net i).authorised) (take (i + 1) legs))
least-step net legs i least leg short leg_is least_is =
    let more = least-more 65535 (λ i. (leg_of net i).authorised) legs i short in
    let seats = ap (λ (leg : Leg). leg.authorised) leg_is in
    omega arith

-- all of them
pub least-end : (net : NetworkValue) → IsNetwork net → (j : ℕ) → j < length net.products → (i least : ℕ) → length (product_of net j).legs ≤ i → least ≡ fold min 65535 (map (λ i. (leg_of net i).authorised) (take i (product_of net j).legs)) → (least ≡ least_authorised_of net j) × (least_authorised_of net j ≤ 999)
least-end net is j short i least all least_is =
    let legs = (product_of net j).legs in
    let some = (product-within net is j short).leg_count in
    let (whole, within) = least-whole 65535 999 (λ i. (leg_of net i).authorised) legs (omega arith) (authorised-within net is) (omega arith) in
    (least_is ∙ ap (λ (legs : List ℕ). fold min 65535 (map (λ i. (leg_of net i).authorised) legs)) (take_all i legs all) ∙ whole, within)
