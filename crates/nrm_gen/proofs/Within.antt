-- Every made network is within the limits.
use Rattle.std.proofs.Common.{ℕ, suc, ◌≡◌, ◌+◌, ◌*◌, ◌/◌, ◌%◌, ◌==◌, if◌then◌else◌, ◌<◌, ◌≤◌, Bool, true, false, List, [], ◌∷◌, length, map}
use Rattle.std.proofs.Common.{take, drop, sum, filter, refl, replicate, nat_le, nat_lt, arith, sym, subst, All}
use Rattle.std.specs.Int.{IsInRange}
use Rattle.std.specs.List.{range_with_len}
use Rattle.std.proofs.lemmas.Bool.{leb-true}
use Rattle.std.proofs.lemmas.Nat.{mod_below}
use Rattle.std.proofs.lemmas.List.{length-take}
use Rattle.std.proofs.lemmas.List.Elements.{All-drop, All-take}
use Rattle.std.proofs.lemmas.List.FromFn.{length-map-range_with_len}
use Rattle.std.proofs.lemmas.List.Sums.{sum_by-le}
use Rattle.nrm_model.specs.declared.leg.Leg.{Leg}
use Rattle.nrm_model.specs.declared.product.Product.{Product}
use Rattle.nrm_model.specs.Limits.{IsLeg, IsNetwork, IsProduct}
use Rattle.nrm_model.proofs.Fits.{IsLeg-from_test, IsNetwork-from_test, IsProduct-from_test, product_fits}
use Rattle.nrm_text.specs.Names.{is_name}
use Rattle.nrm_gen.specs.Draws.{draw_of, state_after}
use Rattle.nrm_gen.specs.Laws.{MadeNetworksAreLimited, ProductsUseOneLegEachWay, UsesOneLegEachWay}
use Rattle.nrm_gen.specs.MadeNetwork.{leg_name, made_demand, made_leg, made_network, made_product, product_legs, product_name}
use Rattle.nrm_gen.proofs.Rows.{each-made}
use Rattle.nrm_number.proofs.Ranges.{passes-below}

-- ---- a leg and a product: all but the seats and the fare is the same in each made network, and is tested
is-leg : (number i : ℕ) → i < 12 → IsLeg (made_leg number i)
is-leg number i few =
    let first = IsLeg-from_test (record { name = leg_name 0; seats = 40; authorised = 40; cuts = 400 ∷ 200 ∷ 100 ∷ [] }) refl in
    let below = mod_below (state_after number (suc i) / 65536) 40 (omega arith) in
    record {
      name = passes-below 12 (λ i. is_name (leg_name i)) refl i few;
      seats = omega arith;
      authorised = omega arith;
      cut_count = first.cut_count;
      cuts = first.cuts;
      falling = first.falling;
    }

one-of-two : (b : Bool) (x y : ℕ) → IsInRange 1 99999999 x → IsInRange 1 99999999 y → IsInRange 1 99999999 (if b then x else y)
one-of-two true x y first second = first
one-of-two false x y first second = second

a-fare : (base m z : ℕ) → 0 < base → base ≤ 350 → 0 < m → m ≤ 300 → IsInRange 1 99999999 (base + z / 65536 % m)
a-fare base m z some few more little = let below = mod_below (z / 65536) m more in (omega arith, omega arith)

is-product : (number j : ℕ) → j < 60 → IsProduct 12 (made_product number j)
is-product number j few =
    let shape = IsProduct-from_test 12 (record { name = product_name j; fare = 100; refund = 100; legs = product_legs j })
    (passes-below 60 (λ j. product_fits 12 (record { name = product_name j; fare = 100; refund = 100; legs = product_legs j })) refl j few) in
    let z = state_after number (suc (12 + j)) in
    record {
      name = shape.name;
      fare = one-of-two (nat_lt j 24) _ _
          (one-of-two (j % 2 == 0) _ _ (a-fare 300 200 z (omega arith) (omega arith) (omega arith) (omega arith))
          (a-fare 100 100 z (omega arith) (omega arith) (omega arith) (omega arith)))
          (a-fare 350 300 z (omega arith) (omega arith) (omega arith) (omega arith));
      refund = shape.refund;
      leg_count = shape.leg_count;
      legs = shape.legs;
      distinct = shape.distinct;
    }

-- the names of all legs and products, in a network with one history of one period and no demand
all-names : IsNetwork (record {
  histories = 1;
  periods = 1;
  legs = map (λ i. record { name = leg_name i; seats = 40; authorised = 40; cuts = [] }) (range_with_len 0 12);
  products = map (λ j. record { name = product_name j; fare = 100; refund = 100; legs = product_legs j }) (range_with_len 0 60);
  demand = replicate 60 0;
})
all-names = IsNetwork-from_test _ refl

-- ---- demand
few-each : (number : ℕ) → All (λ x. x ≤ 5) (made_demand number)
unfolding made_demand
few-each number = each-made (λ k. draw_of number (72 + k) 6) (λ x. x ≤ 5) 1920
    (λ k few. let below = mod_below (state_after number (suc (72 + k)) / 65536) 6 (omega arith) in omega arith)

demand-count : (number : ℕ) → length (made_demand number) ≡ 1920
unfolding made_demand
demand-count number = length-map-range_with_len (λ k. draw_of number (72 + k) 6) 0 1920

four-of-them : (xs : List ℕ) (n : ℕ) → All (λ x. x ≤ 5) xs → sum (take 4 (drop n xs)) ≤ 999
four-of-them xs n few =
    let each = All-take (λ x. x ≤ 5) 4 (drop n xs) (All-drop (λ x. x ≤ 5) n xs few) in
    let most = sum_by-le (λ x. x) 5 (take 4 (drop n xs)) each in
    let count = length-take 4 (drop n xs) in
    omega arith

-- ---- the whole
pub limited : MadeNetworksAreLimited
unfolding made_network
limited number = record {
  histories = (omega arith, omega arith);
  periods = (omega arith, omega arith);
  leg_count = (omega arith, omega arith);
  product_count = (omega arith, omega arith);
  legs = each-made (made_leg number) IsLeg 12 (is-leg number);
  products = each-made (made_product number) (IsProduct 12) 60 (is-product number);
  leg_names = all-names.leg_names;
  product_names = all-names.product_names;
  demand_count = demand-count number;
  demand = λ j h few few_histories. four-of-them (made_demand number) ((j * 8 + h) * 4) (few-each number);
}

uses-one-each : (number j : ℕ) → j < 60 → UsesOneLegEachWay (made_product number j)
uses-one-each number j few = record {
  inbound = leb-true _ 1 (passes-below 60 (λ j. nat_le (length (filter (λ i. nat_lt i 6) (product_legs j))) 1) refl j few);
  outbound = leb-true _ 1 (passes-below 60 (λ j. nat_le (length (filter (λ i. nat_le 6 i) (product_legs j))) 1) refl j few);
}

pub one-leg-each-way : ProductsUseOneLegEachWay
unfolding made_network
one-leg-each-way number = each-made (made_product number) UsesOneLegEachWay 60 (uses-one-each number)

-- the network of its parts
pub of-parts : (number : ℕ) (legs : List Leg) (products : List Product) (demand : List ℕ)
    → legs ≡ map (made_leg number) (range_with_len 0 12) → products ≡ map (made_product number) (range_with_len 0 60)
    → demand ≡ made_demand number
    → record { histories = 8; periods = 4; legs = legs; products = products; demand = demand } ≡ made_network number
unfolding made_network
of-parts number legs products demand legs_are products_are demand_is = λ i.
    record { histories = 8; periods = 4; legs = legs_are i; products = products_are i; demand = demand_is i }

pub parts-limited : (number : ℕ) (legs : List Leg) (products : List Product) (demand : List ℕ)
    → legs ≡ map (made_leg number) (range_with_len 0 12) → products ≡ map (made_product number) (range_with_len 0 60)
    → demand ≡ made_demand number
    → IsNetwork (record { histories = 8; periods = 4; legs = legs; products = products; demand = demand })
parts-limited number legs products demand legs_are products_are demand_is =
    subst IsNetwork (sym (of-parts number legs products demand legs_are products_are demand_is)) (limited number)
