-- Sums of bid prices, and how large they get.
use Rattle.std.proofs.Common.{ℕ, ◌≡◌, ◌≢◌, ◌∙◌, ◌||◌, true≢false, ne_eqb, eq-eqb, slice_get, Some, ◌+◌, ◌<◌, ◌==◌, not, Bool, true, false, cond, List, [], ◌∷◌, ◌++◌, length, get_or, filter, take, All, inl, inr, refl, sym, ap, arith, ℤ, pos, negsuc, nat_abs, to_z, of_z, w64, ◌≤ℤ◌, ◌<ℤ◌}
use Rattle.std.proofs.lemmas.Bool.{cases_Bool, eqb-true}
use Rattle.std.specs.List.{list_any}
use Rattle.std.proofs.lemmas.Option.{slice_get-get_or}
use Rattle.nrm_model.specs.declared.product.Product.{Product}
use Rattle.nrm_model.specs.Inventory.{inventory_of, uses_leg}
use Rattle.nrm_model.specs.Limits.{IsNetwork}
use Rattle.nrm_model.specs.Network.{NetworkValue}
use Rattle.nrm_model.proofs.Inventories.{legs_of-product}
use Rattle.std.proofs.lemmas.Int.{ints}
use Rattle.std.proofs.lemmas.List.{get_or-map}
use Rattle.std.proofs.lemmas.List.Elements.{All-tail, filter_more}
use Rattle.nrm_fraction.specs.Large.{IsSmall, size_limit}
use Rattle.nrm_fraction.proofs.Sizes.{small_same}
use Rattle.nrm_lp.specs.declared.certificate.Certificate.{Certificate}
use Rattle.nrm_lp.specs.Certified.{sizes}
use Rattle.nrm_lp.specs.Program.{price_sum}
use Rattle.nrm_lp.specs.Shape.{IsNumber, HasShape}
use Rattle.nrm_virtual.specs.Adjusted.{HasPrices}

-- a whole number that isn't negative
pub natural : (z : ℤ) (n : ℕ) → pos 0 ≤ℤ z → z <ℤ pos n → (z ≡ pos (nat_abs z)) × (nat_abs z < n)
natural (pos m) n low high = (refl, omega (arith, ints))
natural (negsuc m) n low high = absurd (omega (arith, ints))

-- a certificate of the shape has the prices
number-above : (limit : ℕ) (z : ℤ) → IsNumber limit z → (pos 0 ≤ℤ z) × (z <ℤ pos limit)
number-above limit z (k, is, low) = rw is (omega (arith, ints), omega (arith, ints))

some-above : (z : ℤ) (limit : ℕ) → IsNumber limit z → 0 < nat_abs z → pos 0 <ℤ z
some-above z limit (k, is, low) some = let size = ap nat_abs is in rw is (omega (arith, ints))

pub prices-of_shape : (limit products legs : ℕ) (cert : Certificate) → HasShape limit products legs cert → HasPrices limit legs cert
prices-of_shape limit products legs cert shape = record {
  count = shape.prices;
  prices = λ i d short. number-above limit (get_or cert.p i d) (shape.p_sizes i d short);
  some_den = some-above cert.den limit shape.den_size shape.some_den;
  den = (number-above limit cert.den shape.den_size).1;
}

-- the price of a leg
pub price-at : (limit legs : ℕ) (cert : Certificate) → HasPrices limit legs cert → (i : ℕ) (d : ℤ) → i < length cert.p → (get_or cert.p i d ≡ pos (get_or (sizes cert.p) i 0)) × (get_or (sizes cert.p) i 0 < limit)
price-at limit legs cert has i d short =
    let (low, high) = has.prices i d short in
    let (is, below) = natural (get_or cert.p i d) limit low high in
    let size = get_or-map (λ z. nat_abs z) cert.p i d 0 short in
    rw size (is, below)

-- and its size, as it is read from a word
pub price-read : (legs : ℕ) (cert : Certificate) → HasPrices size_limit legs cert → (i : ℕ) → i < length cert.p → nat_abs (to_z w64 (of_z w64 (get_or cert.p i (pos 0)))) ≡ get_or (sizes cert.p) i 0
price-read legs cert has i short =
    let (is, below) = price-at size_limit legs cert has i (pos 0) short in
    let small : IsSmall (get_or cert.p i (pos 0)) = rw is below in
    ap nat_abs (small_same (get_or cert.p i (pos 0)) small) ∙ ap nat_abs is

-- ---- sums of prices
pub price_sum-append : (p xs ys : List ℕ) → price_sum p (xs ++ ys) ≡ price_sum p xs + price_sum p ys
price_sum-append p [] ys = omega arith
price_sum-append p (x ∷ xs) ys = let rest = price_sum-append p xs ys in omega arith

-- one more leg, that counts or doesn't
pub others-yes : (p legs : List ℕ) (leg k : ℕ) → k < length legs → get_or legs k 0 ≢ leg
    → price_sum p (filter (λ other. not (other == leg)) (take (k + 1) legs)) ≡ price_sum p (filter (λ other. not (other == leg)) (take k legs)) + get_or p (get_or legs k 0) 0
others-yes p legs leg k short other =
    let test : ℕ → Bool = λ other. not (other == leg) in
    let x : ℕ = get_or legs k 0 in
    let counts : not (x == leg) ≡ true = ap not (ne_eqb x leg other) in
    ap (price_sum p) (filter_more test legs k 0 short ∙ ap (λ (b : Bool). filter test (take k legs) ++ cond b (x ∷ []) []) counts)
    ∙ price_sum-append p (filter test (take k legs)) (x ∷ []) ∙ omega arith

pub others-no : (p legs : List ℕ) (leg k : ℕ) → k < length legs → get_or legs k 0 ≡ leg
    → price_sum p (filter (λ other. not (other == leg)) (take (k + 1) legs)) ≡ price_sum p (filter (λ other. not (other == leg)) (take k legs))
others-no p legs leg k short same =
    let test : ℕ → Bool = λ other. not (other == leg) in
    let x : ℕ = get_or legs k 0 in
    let skipped : not (x == leg) ≡ false = ap not (eq-eqb x leg same) in
    ap (price_sum p) (filter_more test legs k 0 short ∙ ap (λ (b : Bool). filter test (take k legs) ++ cond b (x ∷ []) []) skipped)
    ∙ price_sum-append p (filter test (take k legs)) [] ∙ omega arith

-- a leg that a product uses is one of the network
used-within : (legs : List ℕ) (i n : ℕ) → All (λ leg. leg < n) legs → list_any (λ leg. leg == i) legs ≡ true → i < n
used-within [] i n within used = absurd (true≢false (sym used))
used-within (x ∷ legs) i n within used = elim (cases_Bool (x == i)) [
  | inl here ↦ let same = eqb-true x i here in let low = within 0 0 (omega arith) in omega arith
  | inr other ↦ used-within legs i n (All-tail (λ leg. leg < n) x legs within) (sym (ap (λ (b : Bool). b || list_any (λ leg. leg == i) legs) other) ∙ used)
]

pub leg-within : (net : NetworkValue) (i j : ℕ) → IsNetwork net → j < length net.products → uses_leg (inventory_of net) i j ≡ true → i < length net.legs
leg-within net i j ok short used =
    let none : Product = record { name = []; fare = 0; refund = 0; legs = [] } in
    let within = ok.products j none short in
    let found : Some (get_or net.products j none) ≡ slice_get net.products j = sym (slice_get-get_or net.products j none short) in
    used-within (get_or net.products j none).legs i (length net.legs) within.legs
    (sym (ap (λ (legs : List ℕ). list_any (λ leg. leg == i) legs) (legs_of-product net j (get_or net.products j none) found)) ∙ used)
