-- The program of a network is within the limits.
use Rattle.std.proofs.Common.{ℕ, zero, suc, ◌≡◌, ◌≢◌, ◌∙◌, ◌+◌, ◌-◌, ◌*◌, ◌<◌, ◌≤◌, false, eqb, List, [], ◌∷◌, length, get_or, map, sum_by, All, AllPairs, refl, ap, subst, arith}
use Rattle.std.specs.Int.{IsInRange}
use Rattle.std.specs.List.{range_with_len}
use Rattle.std.proofs.Math.Nat.{mul-le-mul_left}
use Rattle.std.proofs.lemmas.Bool.{ne_eqb}
use Rattle.std.proofs.lemmas.List.{get_or-map, length-map}
use Rattle.std.proofs.lemmas.List.Elements.{All-head, All-tail}
use Rattle.std.proofs.lemmas.List.FromFn.{get_or-map-range_with_len, length-map-range_with_len}
use Rattle.std.proofs.lemmas.List.Sums.{sum_by-take-drop}
use Rattle.nrm_model.specs.declared.product.Product.{Product}
use Rattle.nrm_model.specs.Network.{NetworkValue, leg_of}
use Rattle.nrm_model.specs.Demand.{demand_row, demand_to_come, total_to_come}
use Rattle.nrm_model.specs.Inventory.{inventory_of}
use Rattle.nrm_model.specs.Limits.{IsNetwork, IsProduct}
use Rattle.nrm_model.proofs.DemandLemmas.{sum-range-more}
use Rattle.nrm_model.proofs.Inventories.{authorised-are, authorised-count}
use Rattle.nrm_model.proofs.SeatLemmas.{authorised-within}
use Rattle.nrm_lp.specs.Program.{AreLegs, AreProducts, names}
use Rattle.nrm_lp.specs.Limits.{IsLimited}
use Rattle.nrm_dlp.specs.Laws.{OpeningsAreLimited, ProgramsAreLimited, SeatsLeftAreLimited}

-- a leg that differs from each of these is not among them
unnamed : (i : ℕ) (ls : List ℕ) → All (λ l. i ≢ l) ls → names i ls ≡ false
unnamed i [] others = refl
unnamed i (l ∷ ls) others =
    let here : eqb i l ≡ false = ne_eqb i l (All-head (λ l. i ≢ l) l ls others) in
    rw here (unnamed i ls (All-tail (λ l. i ≢ l) l ls others))

-- the first differs from those behind it, and those differ too
first-differs : (l : ℕ) (ls : List ℕ) → AllPairs (λ a b. a ≢ b) (l ∷ ls) → All (λ m. l ≢ m) ls
first-differs l ls apart = λ k d short. apart 0 (suc k) d (omega arith) (omega arith)

rest-differ : (l : ℕ) (ls : List ℕ) → AllPairs (λ a b. a ≢ b) (l ∷ ls) → AllPairs (λ a b. a ≢ b) ls
rest-differ l ls apart = λ i j d before short. apart (suc i) (suc j) d (omega arith) (omega arith)

are-legs : (n : ℕ) (ls : List ℕ) → All (λ l. l < n) ls → AllPairs (λ a b. a ≢ b) ls → AreLegs n ls
are-legs n [] each apart = tt
are-legs n (l ∷ ls) each apart =
    (All-head (λ l. l < n) l ls each, unnamed l ls (first-differs l ls apart), are-legs n ls (All-tail (λ l. l < n) l ls each) (rest-differ l ls apart))

are-products : (n : ℕ) (bounds : List ℕ) (products : List Product) → length bounds ≡ length products → All (IsProduct n) products
    → AreProducts n bounds (map (λ (product : Product). product.fare) products) (map (λ (product : Product). product.legs) products)
are-products n [] [] many each = tt
are-products n [] (p ∷ ps) many each = absurd (omega (arith, many))
are-products n (b ∷ bs) [] many each = absurd (omega (arith, many))
are-products n (b ∷ bs) (p ∷ ps) many each =
    let first = All-head (IsProduct n) p ps each in
    (are-legs n p.legs first.legs first.distinct, are-products n bs ps (omega (arith, many)) (All-tail (IsProduct n) p ps each))

-- the demand to come in a few histories
sum-within : (f : ℕ → ℕ) (most n : ℕ) → ((h : ℕ) → h < n → f h ≤ most) → sum_by f (range_with_len 0 n) ≤ most * n
sum-within f most zero each = omega arith
sum-within f most (suc n) each =
    let before = sum-within f most n (λ h few. each h (omega arith)) in
    let last = each n (omega arith) in
    let next : n + 1 ≡ suc n = omega arith in
    let more = subst (λ m. sum_by f (range_with_len 0 m) ≡ sum_by f (range_with_len 0 n) + f n) next (sum-range-more f n) in
    omega (arith, before, last, more)

pub total-within : (net : NetworkValue) → IsNetwork net → (j k : ℕ) → j < length net.products → total_to_come net j k ≤ 31968
total-within net is j k few =
    let one : (h : ℕ) → h < net.histories → demand_to_come net j h k ≤ 999 = λ h short.
    omega (arith, sum_by-take-drop (λ x. x) (demand_row net j h) (k - 1), is.demand j h few short) in
    let all = sum-within (λ h. demand_to_come net j h k) 999 net.histories one in
    omega (arith, all, is.histories.1)

-- part by part
module _ (net : NetworkValue) (is : IsNetwork net) where
  fare-size : (j : ℕ) → j < length net.products → IsInRange 1 99999999 (get_or (inventory_of net).fares j 0)
  fare-size j few =
      let none : Product = record { name = []; fare = 0; refund = 0; legs = [] } in
      let read = get_or-map (λ (product : Product). product.fare) net.products j none 0 few in
      rw read ((is.products j none few).fare)

  legs-count : (j : ℕ) → j < length net.products → IsInRange 1 4 (length (get_or (inventory_of net).legs j []))
  legs-count j few =
      let none : Product = record { name = []; fare = 0; refund = 0; legs = [] } in
      let read = ap length (get_or-map (λ (product : Product). product.legs) net.products j none [] few) in
      rw read ((is.products j none few).leg_count)

  pub caps-within : (left : List ℕ) → length left ≡ length net.legs → ((i : ℕ) → i < length net.legs → get_or left i 0 ≤ (leg_of net i).authorised) → All (λ cap. cap ≤ 31968) (map (λ seats. net.histories * seats) left)
  caps-within left many seats = λ i none l.
      let short : i < length left = omega (arith, l, length-map left (λ (seats : ℕ). net.histories * seats)) in
      let read = get_or-map (λ (seats : ℕ). net.histories * seats) left i 0 none short in
      let most : get_or left i 0 ≤ 999 = omega (arith, seats i (omega (arith, short, many)), authorised-within net is i) in
      let less : net.histories * get_or left i 0 ≤ net.histories * 999 = mul-le-mul_left net.histories most in
      omega (arith, read, less, is.histories.1)

  pub bounds-within : (k : ℕ) → All (λ bound. bound ≤ 31968) (map (λ j. total_to_come net j k) (range_with_len 0 (length net.products)))
  bounds-within k = λ j none l.
      let few : j < length net.products = omega (arith, l, length-map-range_with_len (λ j. total_to_come net j k) 0 (length net.products)) in
      let read = get_or-map-range_with_len (λ j. total_to_come net j k) 0 (length net.products) j j none few (omega arith) in
      omega (arith, read, total-within net is j k few)

pub made-limited : ProgramsAreLimited
made-limited net caps bounds is cap_count caps_within bound_count bounds_within = record {
  some_caps = omega (arith, cap_count, is.leg_count.0);
  cap_count = omega (arith, cap_count, is.leg_count.1);
  some_bounds = omega (arith, bound_count, is.product_count.0);
  bound_count = omega (arith, bound_count, is.product_count.1);
  cap_size = λ i short. caps_within i 0 short;
  bound_size = λ j short. bounds_within j 0 short;
  some_fare = λ j short. (fare-size net is j (omega (arith, bound_count, short))).0;
  fare_size = λ j short. (fare-size net is j (omega (arith, bound_count, short))).1;
  some_leg = λ j short. (legs-count net is j (omega (arith, bound_count, short))).0;
  leg_count = λ j short. (legs-count net is j (omega (arith, bound_count, short))).1;
  products = rw cap_count (are-products (length net.legs) bounds net.products bound_count is.products);
}

pub limited : SeatsLeftAreLimited
limited net left k is many seats =
    made-limited net (map (λ seats. net.histories * seats) left) (map (λ j. total_to_come net j k) (range_with_len 0 (length net.products))) is
    (length-map left (λ (seats : ℕ). net.histories * seats) ∙ many) (caps-within net is left many seats)
    (length-map-range_with_len (λ j. total_to_come net j k) 0 (length net.products)) (bounds-within net is k)

pub opening-limited : OpeningsAreLimited
opening-limited net is = limited net (inventory_of net).authorised 1 is (authorised-count net) (λ i short. omega (arith, authorised-are net i))

-- and so is what was made of its parts
pub limited-parts : (net : NetworkValue) (caps bounds fares : List ℕ) (legs : List (List ℕ)) → IsNetwork net
    → length caps ≡ length net.legs → All (λ cap. cap ≤ 31968) caps → length bounds ≡ length net.products → All (λ bound. bound ≤ 31968) bounds
    → fares ≡ (inventory_of net).fares → legs ≡ (inventory_of net).legs
    → IsLimited (record { caps = caps; bounds = bounds; fares = fares; legs = legs })
limited-parts net caps bounds fares legs is cap_count caps_within bound_count bounds_within fares_are legs_are =
    rw (fares_are, legs_are) (made-limited net caps bounds is cap_count caps_within bound_count bounds_within)
