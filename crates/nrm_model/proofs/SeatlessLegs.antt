-- Two lists of legs that differ in their physical seats alone: what a network with the one and a network with the other have alike.
-- What reads no leg, as fares, demand and seats sold, is the same by computation, and needs no lemma.
use Rattle.std.proofs.Common.{ℕ, ◌≡◌, ◌∙◌, List, [], length, map, Option, Some, None, option_map, slice_get, unwrap_or, bytes_eq, refl, sym, ap}
use Rattle.std.specs.List.{position_from}
use Rattle.std.proofs.lemmas.List.{length-map}
use Rattle.std.proofs.lemmas.Option.{slice_get-map}
use Rattle.std.proofs.lemmas.Simd.{map-map}
use Rattle.nrm_model.specs.declared.leg.Leg.{Leg}
use Rattle.nrm_model.specs.Inventory.{inventory_of}
use Rattle.nrm_model.specs.Network.{NetworkValue, least_authorised_of, least_of, leg_named, leg_of, product_of}
use Rattle.nrm_model.proofs.NameLemmas.{position_from-map}

-- a leg without its physical seats
abbrev pub seatless : Leg → Leg
seatless leg = record leg { seats = 0 }

-- a network with other legs
abbrev pub with_legs : NetworkValue → List Leg → NetworkValue
with_legs net legs = record net { legs = legs }

-- two lists of legs that differ in their physical seats alone
pub record AreSameLegs (legs others : List Leg) : Type 0 where
  pub but_seats : map seatless legs ≡ map seatless others

abbrev no_leg : Leg
no_leg = record { name = []; seats = 0; authorised = 0; cuts = [] }

abbrev leg_in : List Leg → ℕ → Leg
leg_in legs i = unwrap_or (slice_get legs i) no_leg

seatless-or : (o : Option Leg) → unwrap_or (option_map seatless o) no_leg ≡ seatless (unwrap_or o no_leg)
seatless-or None = refl
seatless-or (Some leg) = refl

seatless-in : (legs : List Leg) (i : ℕ) → leg_in (map seatless legs) i ≡ seatless (leg_in legs i)
seatless-in legs i = ap (λ (o : Option Leg). unwrap_or o no_leg) (slice_get-map seatless legs i) ∙ seatless-or (slice_get legs i)

module _ (net : NetworkValue) (legs : List Leg) (same : AreSameLegs net.legs legs) where
  -- as many legs
  pub count-same : length net.legs ≡ length legs
  count-same = sym (length-map net.legs seatless) ∙ ap length same.but_seats ∙ length-map legs seatless

  -- the same of each leg
  leg-same : (i : ℕ) → seatless (leg_of net i) ≡ seatless (leg_of (with_legs net legs) i)
  leg-same i = sym (seatless-in net.legs i) ∙ ap (λ (ls : List Leg). leg_in ls i) same.but_seats ∙ seatless-in legs i

  pub name-same : (i : ℕ) → (leg_of net i).name ≡ (leg_of (with_legs net legs) i).name
  name-same i = λ k. (leg-same i k).name

  pub authorised-same : (i : ℕ) → (leg_of net i).authorised ≡ (leg_of (with_legs net legs) i).authorised
  authorised-same i = λ k. (leg-same i k).authorised

  pub cuts-same : (i : ℕ) → (leg_of net i).cuts ≡ (leg_of (with_legs net legs) i).cuts
  cuts-same i = λ k. (leg-same i k).cuts

  -- the same leg of each name
  pub named-same : (name : List ℕ) → leg_named net name ≡ leg_named (with_legs net legs) name
  named-same name =
      sym (position_from-map seatless (λ (leg : Leg). bytes_eq leg.name name) 0 net.legs)
      ∙ ap (position_from (λ (leg : Leg). bytes_eq leg.name name) 0) same.but_seats
      ∙ position_from-map seatless (λ (leg : Leg). bytes_eq leg.name name) 0 legs

  -- the same inventory
  authorised-list-same : (inventory_of net).authorised ≡ (inventory_of (with_legs net legs)).authorised
  authorised-list-same =
      sym (map-map (λ (leg : Leg). leg.authorised) seatless net.legs)
      ∙ ap (map (λ (leg : Leg). leg.authorised)) same.but_seats
      ∙ map-map (λ (leg : Leg). leg.authorised) seatless legs

  pub inventory-same : inventory_of net ≡ inventory_of (with_legs net legs)
  inventory-same = λ k. record { authorised = authorised-list-same k; fares = (inventory_of net).fares; legs = (inventory_of net).legs }

  -- the same least authorised seats of each product
  pub least-same : (j : ℕ) → least_authorised_of net j ≡ least_authorised_of (with_legs net legs) j
  least-same j = λ k. least_of (map (λ i. authorised-same i k) (product_of net j).legs)
