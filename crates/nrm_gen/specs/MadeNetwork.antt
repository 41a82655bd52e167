-- The network that is made of a number: a hub with six inbound and six outbound legs, local products on each and
-- through products from each to each.
use Rattle.std.specs.Prelude.{ℕ, ◌+◌, ◌-◌, ◌/◌, ◌%◌, ◌==◌, ◌++◌, List, [], ◌∷◌, map, nat_lt, if◌then◌else◌}
use Rattle.std.specs.List.{range_with_len}
use Rattle.nrm_model.specs.Network.{NetworkValue}
use Rattle.nrm_model.specs.declared.leg.Leg.{Leg}
use Rattle.nrm_model.specs.declared.product.Product.{Product}
use Rattle.nrm_gen.specs.Draws.{draw_of}

-- legs 0 to 5 are I1 to I6, legs 6 to 11 are O1 to O6
abbrev pub leg_name : ℕ → List ℕ
leg_name leg = if nat_lt leg 6 then 73 ∷ (49 + leg) ∷ [] else 79 ∷ (43 + leg) ∷ []

-- 40 to 79 seats, by the draw of the leg's number, all of them authorised and no more
abbrev pub made_leg : ℕ → ℕ → Leg
made_leg number leg =
    let seats = 40 + draw_of number leg 40 in
    record { name = leg_name leg; seats = seats; authorised = seats; cuts = 400 ∷ 200 ∷ 100 ∷ [] }

-- products 0 to 23: on each leg X the dear one, X-H, and then the cheap one, X-L; products 24 to 59: Ta-b on Ia and
-- Ob, for each a and each b
abbrev pub product_name : ℕ → List ℕ
product_name product =
    if nat_lt product 24 then leg_name (product / 2) ++ 45 ∷ (if product % 2 == 0 then 72 else 76) ∷ []
    else 84 ∷ (49 + (product - 24) / 6) ∷ 45 ∷ (49 + (product - 24) % 6) ∷ []

abbrev pub product_legs : ℕ → List ℕ
product_legs product = if nat_lt product 24 then product / 2 ∷ [] else (product - 24) / 6 ∷ (6 + (product - 24) % 6) ∷ []

-- by the draw after those of the legs and of the products before: dear ones 300 to 499, cheap ones 100 to 199, through ones 350 to 649
abbrev pub product_fare : ℕ → ℕ → ℕ
product_fare number product =
    if nat_lt product 24 then (if product % 2 == 0 then 300 + draw_of number (12 + product) 200
    else 100 + draw_of number (12 + product) 100)
    else 350 + draw_of number (12 + product) 300

abbrev pub made_product : ℕ → ℕ → Product
made_product number product =
    record { name = product_name product; fare = product_fare number product; refund = 100; legs = product_legs product }

-- the demand of a product, a history (from 0) and a period (from 0): 0 to 5, by the draws after all these, product by
-- product, history by history, period by period
unfoldable pub made_demand : ℕ → List ℕ
made_demand number = map (λ k. draw_of number (72 + k) 6) (range_with_len 0 1920)

unfoldable pub made_network : ℕ → NetworkValue
made_network number = record {
  histories = 8;
  periods = 4;
  legs = map (made_leg number) (range_with_len 0 12);
  products = map (made_product number) (range_with_len 0 60);
  demand = made_demand number;
}
