-- Four fares of a leg, in two groups, in ten and in one; and what is asked for on a leg.
use Rattle.std.proofs.Common.{arith, lit<, zero, suc}
use Rattle.std.specs.Prelude.{◌≡◌, ◌-◌, ◌*◌, ◌/◌, List, [], ◌∷◌, map, codes, nat_lt, refl, Some, if◌then◌else◌}
use Rattle.nrm_model.specs.Network.{NetworkValue}
use Rattle.nrm_cluster.specs.Points.{PointsValue, asked_on, fares_of, seats_at}
use Rattle.nrm_cluster.specs.declared.points.Asked.{Asked}
use Rattle.nrm_cluster.specs.Divisions.{cuts_of, distance, centre_of, Grouping, IsGrouping, by_thresholds, grouping_cost, piece_number}
use Rattle.nrm_cluster.specs.Inner.Table.{best_division}

abbrev pub four_fares : PointsValue
four_fares = record { values = 500 ∷ 400 ∷ 229 ∷ 150 ∷ []; weights = 16 ∷ 12 ∷ 0 ∷ 28 ∷ [] }

in_two : best_division four_fares 2 ≡ Some (record { cost = 1200; lengths = 2 ∷ 2 ∷ [] })
in_two = refl

two_cuts : cuts_of four_fares (2 ∷ 2 ∷ []) ≡ record { cost = 1200; cuts = 400 ∷ []; centres = 500 ∷ 150 ∷ [] }
two_cuts = refl

-- a fare that nobody asked for joins its neighbour, though there would be groups enough
in_ten : best_division four_fares 10 ≡ Some (record { cost = 0; lengths = 1 ∷ 1 ∷ 2 ∷ [] })
in_ten = refl

ten_cuts : cuts_of four_fares (1 ∷ 1 ∷ 2 ∷ []) ≡ record { cost = 0; cuts = 500 ∷ 400 ∷ []; centres = 500 ∷ 400 ∷ 150 ∷ [] }
ten_cuts = refl

in_one : best_division four_fares 1 ≡ Some (record { cost = 8600; lengths = 4 ∷ [] })
in_one = refl

one_centre : cuts_of four_fares (4 ∷ []) ≡ record { cost = 8600; cuts = []; centres = 400 ∷ [] }
one_centre = refl

-- a grouping by hand, of fares that are no neighbours: 500 and 229 about 480, 400 and 150 about 160. It is one into two groups, and none
-- into one; it costs 16 x 20 + 12 x 240 + 28 x 10
abbrev crossed : Grouping
crossed = record { group = λ k. if nat_lt 0 (k - 2 * (k / 2)) then 1 else 0; centre = λ g. if nat_lt 0 g then 160 else 480 }

crossed_cost : grouping_cost four_fares crossed ≡ 3480
crossed_cost = refl

crossed_in_two : IsGrouping four_fares 2 crossed
crossed_in_two zero below = omega arith
crossed_in_two (suc zero) below = omega arith
crossed_in_two (suc (suc zero)) below = omega arith
crossed_in_two (suc (suc (suc zero))) below = omega arith
crossed_in_two (suc (suc (suc (suc k)))) below = absurd (omega (arith, below))

crossed_in_one : IsGrouping four_fares 1 crossed → ⊥
crossed_in_one is = let second = is 1 (lit< tt) in omega (arith, second)

-- by its cuts in ten the 500 stands alone, and so does the 400; the groups are the pieces
by_cuts : map (by_thresholds four_fares (cuts_of four_fares (1 ∷ 1 ∷ 2 ∷ []))).group (0 ∷ 1 ∷ 2 ∷ 3 ∷ []) ≡ 0 ∷ 1 ∷ 2 ∷ 2 ∷ []
by_cuts = refl

numbers : map (piece_number (1 ∷ 1 ∷ 2 ∷ [])) (0 ∷ 1 ∷ 2 ∷ 3 ∷ []) ≡ 0 ∷ 1 ∷ 2 ∷ 2 ∷ []
numbers = refl

by_one_cut : grouping_cost four_fares (by_thresholds four_fares (cuts_of four_fares (2 ∷ 2 ∷ []))) ≡ 1200
by_one_cut = refl

-- a distance has no sign, and a centre is the first value that half of the weight is up to: of two of one weight the higher
either_way : (distance 150 229 ≡ 79) × (distance 229 150 ≡ 79)
either_way = (refl, refl)

higher_of_two : centre_of (record { values = 9 ∷ 4 ∷ []; weights = 1 ∷ 1 ∷ [] }) 0 2 ≡ 9
higher_of_two = refl

-- ---- what is asked for on a leg, in two histories of two periods: two products have one fare, and a third uses another leg
abbrev shared_fare : NetworkValue
shared_fare = record {
  histories = 2;
  periods = 2;
  legs = record { name = codes "AB"; seats = 3; authorised = 3; cuts = [] } ∷ record { name = codes "BC"; seats = 2; authorised = 2; cuts = [] } ∷ [];
  products = record { name = codes "ONE"; fare = 200; refund = 100; legs = 0 ∷ [] } ∷ record { name = codes "BOTH"; fare = 300; refund = 100; legs = 0 ∷ 1 ∷ [] }
      ∷ record { name = codes "OTHER"; fare = 200; refund = 100; legs = 0 ∷ [] } ∷ record { name = codes "FAR"; fare = 900; refund = 100; legs = 1 ∷ [] } ∷ [];
  demand = 1 ∷ 2 ∷ 3 ∷ 4 ∷ 5 ∷ 0 ∷ 0 ∷ 6 ∷ 0 ∷ 0 ∷ 7 ∷ 0 ∷ 9 ∷ 9 ∷ 9 ∷ 9 ∷ [];
}

abbrev on_first_leg : List Asked
on_first_leg = record { fare = 200; seats = 10 } ∷ record { fare = 300; seats = 11 } ∷ record { fare = 200; seats = 7 } ∷ []

asked : asked_on shared_fare 0 ≡ on_first_leg
asked = refl

fares : fares_of on_first_leg ≡ 200 ∷ 300 ∷ 200 ∷ []
fares = refl

-- what is asked for at one fare is added
seats : map (seats_at on_first_leg) (300 ∷ 200 ∷ 100 ∷ []) ≡ 11 ∷ 17 ∷ 0 ∷ []
seats = refl
