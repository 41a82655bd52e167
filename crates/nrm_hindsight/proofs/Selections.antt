-- A selection is an allocation of the linear program of hindsight, and earns no more than its value.
use Rattle.std.proofs.Common.{ℕ, ◌≡◌, ◌∙◌, ◌+◌, ◌*◌, ◌<◌, ◌≤◌, ◌||◌, pos, ◌*ℤ◌, ◌≤ℤ◌, true, eqb, All, List, [], ◌∷◌, length, get_or, map, sum_by, refl, sym, ap, ap₂, subst, zero-add, arith}
use Rattle.std.specs.List.{list_any, range_with_len}
use Rattle.std.proofs.Math.IntN.{*ℤ-one}
use Rattle.std.proofs.lemmas.Bool.Decides.{nat_tests}
use Rattle.std.proofs.lemmas.List.{length-map}
use Rattle.std.proofs.lemmas.List.Elements.{All-head, All-map, All-tail}
use Rattle.std.proofs.lemmas.List.FromFn.{get_or-map-range_with_len, length-map-range_with_len}
use Rattle.std.proofs.lemmas.List.Sums.{sum_by-cons}
use Rattle.std.proofs.lemmas.Option.{unwrap_or-slice_get}
use Rattle.nrm_model.specs.Inventory.{inventory_of, products_on, authorised_of, uses_leg}
use Rattle.nrm_model.specs.Limits.{IsNetwork}
use Rattle.nrm_model.specs.Network.{NetworkValue, leg_of, least_of, least_authorised_of, product_of}
use Rattle.nrm_model.proofs.SeatLemmas.{product-within}
use Rattle.nrm_lp.specs.Program.{IsAllocation, dot, gain, load, names}
use Rattle.nrm_dlp.specs.Programs.{hindsight_program}
use Rattle.nrm_book.specs.declared.booking.Booking.{Booking}
use Rattle.nrm_book.specs.Bookings.{revenue_of, sold_of, sold_on, worth_of}
use Rattle.nrm_book.proofs.Sold.{uses-each}
use Rattle.nrm_book.proofs.Sums.{sum-plus, sum-same, sum-zero}
use Rattle.nrm_hindsight.specs.Laws.{BookingsAreSelected, SelectionsAllocate, SelectionsAreBounded}
use Rattle.nrm_hindsight.specs.Requests.{Request, asked_for, request_of, requests_of, tallies_of, tally_of}
use Rattle.nrm_hindsight.specs.Selections.{IsSelection, earned_by, seats_asked_on, taken_of_each}
use Rattle.nrm_hindsight.proofs.Asked.{asked-cons, asked-is-sold, chosen-asks-le, party_for}
use Rattle.nrm_dlp.proofs.Bounds.{hindsight-bounds}
use Rattle.nrm_hindsight.proofs.Choices.{all-chosen}
use Rattle.nrm_model.proofs.Inventories.{fare-is, fare-past, fares-count, legs-are, legs-count, authorised-are}
use Rattle.nrm_hindsight.proofs.Sums.{dot-is, load-is, one-term, passing-le}
use Rattle.nrm_hindsight.proofs.Tallies.{tallies-capped}

-- ---- no product is taken beyond the least authorised seats among its legs
-- what is at most each of some numbers is at most the least of them
le-least : (m : ℕ) (xs : List ℕ) → 0 < length xs → All (λ x. m ≤ x) xs → m ≤ least_of xs
le-least m [] some each = absurd (omega arith)
le-least m (x ∷ []) some each = All-head (λ y. m ≤ y) x [] each
le-least m (x ∷ y ∷ more) some each =
    let first = All-head (λ z. m ≤ z) x (y ∷ more) each in
    let rest = le-least m (y ∷ more) (omega arith) (All-tail (λ z. m ≤ z) x (y ∷ more) each) in
    omega arith

-- a leg of a product carries what is taken of it
leg-carries : (net : NetworkValue) (chosen : List Request) (i j : ℕ) → j < length net.products → uses_leg (inventory_of net) i j ≡ true → asked_for chosen j ≤ seats_asked_on net chosen i
leg-carries net chosen i j few uses =
    passing-le (uses_leg (inventory_of net) i) (asked_for chosen) j 0 (length (inventory_of net).legs) (omega arith) (omega (arith, few, legs-count net)) uses

within-least : (net : NetworkValue) (requests chosen : List Request) (j : ℕ) → IsNetwork net → IsSelection net requests chosen → j < length net.products → asked_for chosen j ≤ least_authorised_of net j
within-least net requests chosen j ok is few =
    let product = product-within net ok j few in
    let seats = λ (i : ℕ). (leg_of net i).authorised in
    let uses : All (λ i. uses_leg (inventory_of net) i j ≡ true) (product_of net j).legs = subst (λ (legs : List ℕ). All (λ i. uses_leg (inventory_of net) i j ≡ true) legs) (legs-are net j) (uses-each (inventory_of net) j) in
    let each : All (λ i. asked_for chosen j ≤ seats i) (product_of net j).legs = λ k d short.
    let i = get_or (product_of net j).legs k d in
    omega (arith, leg-carries net chosen i j few (uses k d short), is.fits i (product.legs k d short), authorised-are net i) in
    le-least (asked_for chosen j) (map seats (product_of net j).legs) (omega (arith, product.leg_count.0, length-map (product_of net j).legs seats)) (All-map (λ x. asked_for chosen j ≤ x) seats (product_of net j).legs each)

-- ---- the allocation
eqb-turned : (m n : ℕ) → eqb m n ≡ eqb n m
eqb-turned m n = grind (arith, nat_tests)

names-is : (i : ℕ) (ls : List ℕ) → names i ls ≡ list_any (λ leg. eqb leg i) ls
names-is i [] = refl
names-is i (l ∷ ls) = ap₂ (λ a b. a || b) (eqb-turned i l) (names-is i ls)

taken-at : (net : NetworkValue) (chosen : List Request) (k : ℕ) → k < length net.products → get_or (taken_of_each net chosen) k 0 ≡ asked_for chosen k
taken-at net chosen k few = get_or-map-range_with_len (asked_for chosen) 0 (length net.products) k k 0 few (omega arith)

taken-count : (net : NetworkValue) (chosen : List Request) → length (taken_of_each net chosen) ≡ length net.products
taken-count net chosen = length-map-range_with_len (asked_for chosen) 0 (length net.products)

loads-are : (net : NetworkValue) (chosen : List Request) (i : ℕ) → load i (inventory_of net).legs (taken_of_each net chosen) ≡ seats_asked_on net chosen i
loads-are net chosen i =
    ap (λ (n : ℕ). load i (inventory_of net).legs (map (asked_for chosen) (range_with_len 0 n))) (sym (legs-count net))
    ∙ load-is i (asked_for chosen) (uses_leg (inventory_of net) i) 0 (inventory_of net).legs each
  where
    each : (k : ℕ) → k < length (inventory_of net).legs → uses_leg (inventory_of net) i (0 + k) ≡ names i (get_or (inventory_of net).legs k [])
    each k short =
        ap (uses_leg (inventory_of net) i) (zero-add k)
        ∙ ap (list_any (λ leg. eqb leg i)) (unwrap_or-slice_get (inventory_of net).legs k [])
        ∙ sym (names-is i (get_or (inventory_of net).legs k []))

allocates : (net : NetworkValue) (requests chosen : List Request) → IsNetwork net → IsSelection net requests chosen → IsAllocation (hindsight_program net (tallies_of net requests)) 1 (taken_of_each net chosen)
allocates net requests chosen ok is = record {
  whole = omega arith;
  shape = taken-count net chosen ∙ sym (length-map-range_with_len (tally_of net requests) 0 (length net.products));
  within = within;
  seats = λ i short.
      let leg : i < length net.legs = rw length-map at short in
      omega (arith, loads-are net chosen i, is.fits i leg);
}
  where
    within : (k : ℕ) → k < length (taken_of_each net chosen) → get_or (taken_of_each net chosen) k 0 ≤ 1 * get_or (tallies_of net requests) k 0
    within k short =
        let few : k < length net.products = omega (arith, short, taken-count net chosen) in
        let tally = get_or-map-range_with_len (tally_of net requests) 0 (length net.products) k k 0 few (omega arith) in
        omega (arith, tally, taken-at net chosen k few, chosen-asks-le is.choice k, within-least net requests chosen k ok is few)

-- ---- its gain
earned-is : (n : ℕ) (fare : ℕ → ℕ) → ((k : ℕ) → n ≤ k → fare k ≡ 0) → (chosen : List Request) → sum_by (λ j. fare j * asked_for chosen j) (range_with_len 0 n) ≡ sum_by (λ (request : Request). request.party * fare request.product) chosen
earned-is n fare beyond [] = sum-same (λ j. fare j * 0) (λ j. 0) (range_with_len 0 n) (λ j. omega arith) ∙ sum-zero (range_with_len 0 n)
earned-is n fare beyond (r ∷ rs) =
    sum-same (λ j. fare j * asked_for (r ∷ rs) j) (λ j. fare j * party_for j r + fare j * asked_for rs j) (range_with_len 0 n) (λ j. ap (λ t. fare j * t) (asked-cons r rs j) ∙ omega arith)
    ∙ sum-plus (λ j. fare j * party_for j r) (λ j. fare j * asked_for rs j) (range_with_len 0 n)
    ∙ ap₂ (λ s t. s + t) (one-term fare r.product r.party n (beyond r.product) ∙ turned (fare r.product) r.party) (earned-is n fare beyond rs)
    ∙ sym (sum_by-cons (λ (request : Request). request.party * fare request.product) r rs)
  where
    turned : (a b : ℕ) → a * b ≡ b * a
    turned a b = omega arith

gains : (net : NetworkValue) (requests chosen : List Request) → gain (hindsight_program net (tallies_of net requests)) (taken_of_each net chosen) ≡ earned_by net chosen
gains net requests chosen =
    ap (λ (n : ℕ). dot (inventory_of net).fares (map (asked_for chosen) (range_with_len 0 n))) (sym (fares-count net))
    ∙ dot-is (asked_for chosen) fare 0 (inventory_of net).fares (λ k short. ap fare (zero-add k) ∙ sym (fare-is net k))
    ∙ ap (λ (n : ℕ). sum_by (λ j. fare j * asked_for chosen j) (range_with_len 0 n)) (fares-count net)
    ∙ earned-is (length net.products) fare (fare-past net) chosen
  where
    fare : ℕ → ℕ
    fare j = (product_of net j).fare

-- ---- the laws
pub selections-allocate : SelectionsAllocate
selections-allocate net requests chosen ok is = (allocates net requests chosen ok is, gains net requests chosen)

pub selections-bounded : SelectionsAreBounded
unfolding lib.IntN.one
selections-bounded net requests value ok hindsight chosen is =
    let bound = hindsight-bounds net (tallies_of net requests) value ok (tallies-capped net requests) hindsight 1 (taken_of_each net chosen) (allocates net requests chosen ok is) in
    let earned = subst (λ (g : ℕ). pos (g * value.den) ≤ℤ (value.num *ℤ pos 1)) (gains net requests chosen) bound in
    subst (λ z. pos (earned_by net chosen * value.den) ≤ℤ z) (*ℤ-one value.num) earned

-- bookings earned their revenue
earned-revenue : (net : NetworkValue) (bookings : List Booking) → earned_by net (requests_of bookings) ≡ revenue_of (inventory_of net) bookings
earned-revenue net [] = refl
earned-revenue net (b ∷ bs) =
    let rest = earned-revenue net bs in
    let first : b.party * (product_of net b.product).fare ≡ worth_of (inventory_of net) b = ap (λ n. b.party * n) (sym (fare-is net b.product)) in
    sum_by-cons (λ (request : Request). request.party * (product_of net request.product).fare) (request_of b) (requests_of bs)
    ∙ ap₂ (λ s t. s + t) first rest
    ∙ sym (sum_by-cons (worth_of (inventory_of net)) b bs)

pub bookings-selected : BookingsAreSelected
bookings-selected net requests bookings choice fits = (
  record {
    choice = choice;
    fits = λ i few. omega (arith, fits i few, sum-same (asked_for (requests_of bookings)) (sold_of bookings) (products_on (inventory_of net) i) (asked-is-sold bookings));
  },
  earned-revenue net bookings,
)

-- so of no product more is booked than the least authorised seats among its legs
pub sold-within-least : (net : NetworkValue) (bookings : List Booking) (j : ℕ) → IsNetwork net → ((i : ℕ) → i < length net.legs → sold_on (inventory_of net) bookings i ≤ authorised_of (inventory_of net) i)
    → j < length net.products → sold_of bookings j ≤ least_authorised_of net j
sold-within-least net bookings j ok fits few =
    let is = bookings-selected net (requests_of bookings) bookings (all-chosen (requests_of bookings)) fits in
    omega (arith, asked-is-sold bookings j, within-least net (requests_of bookings) (requests_of bookings) j ok is.0 few)
