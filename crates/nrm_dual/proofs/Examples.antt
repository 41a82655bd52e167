-- The checker's verdicts worked: each condition failing first, with its least leg or product, and certificates that pass.
use Rattle.std.proofs.Common.{◌≡◌, pos, negsuc, refl, [], ◌∷◌}
use Rattle.nrm_number.specs.Gcd.{gcd, lcm, in_lowest_terms}
use Rattle.nrm_fraction.specs.Fraction.{◌over◌, ◌+ᶠ◌, ◌*ᶠ◌, inverse, negative, less, whole}
use Rattle.nrm_lp.specs.Program.{ProgramValue}
use Rattle.nrm_lp.specs.Closing.{certificate}
use Rattle.nrm_dual.specs.Conditions.{verdict_on}
use Rattle.nrm_dual.specs.declared.verdict.Verdict.TheVariants.{Optimal, WrongShape, WrongProduct, WrongLeg, WrongValue}
use Rattle.nrm_lp.proofs.OverflowExamples.{triangle, reached_by}

-- the triangle's own certificate
own : certificate triangle (reached_by triangle 4) ≡ record { q = pos 2; x = pos 1 ∷ pos 1 ∷ pos 1 ∷ []; den = pos 1; p = pos 1 ∷ pos 1 ∷ pos 1 ∷ []; value = pos 3 }
unfolding ◌over◌ ◌+ᶠ◌ ◌*ᶠ◌ negative inverse less whole gcd lcm in_lowest_terms
own = refl

own_verdict : verdict_on triangle (certificate triangle (reached_by triangle 4)) ≡ Optimal
unfolding ◌over◌ ◌+ᶠ◌ ◌*ᶠ◌ negative inverse less whole gcd lcm in_lowest_terms
own_verdict = refl

-- the same pair in other spellings passes too
other_spelling : verdict_on triangle (record { q = pos 4; x = pos 2 ∷ pos 2 ∷ pos 2 ∷ []; den = pos 3; p = pos 3 ∷ pos 3 ∷ pos 3 ∷ []; value = pos 9 }) ≡ Optimal
other_spelling = refl

-- two products on one leg of 10 seats, the dear one first
abbrev pub one_leg : ProgramValue
one_leg = record { caps = 10 ∷ []; bounds = 4 ∷ 8 ∷ []; fares = 300 ∷ 100 ∷ []; legs = (0 ∷ []) ∷ (0 ∷ []) ∷ [] }

passes : verdict_on one_leg (record { q = pos 1; x = pos 4 ∷ pos 6 ∷ []; den = pos 1; p = pos 100 ∷ []; value = pos 1800 }) ≡ Optimal
passes = refl

-- ---- the shape
short_list : verdict_on one_leg (record { q = pos 1; x = pos 4 ∷ []; den = pos 1; p = pos 100 ∷ []; value = pos 1800 }) ≡ WrongShape
short_list = refl

many_prices : verdict_on one_leg (record { q = pos 1; x = pos 4 ∷ pos 6 ∷ []; den = pos 1; p = pos 100 ∷ pos 0 ∷ []; value = pos 1800 }) ≡ WrongShape
many_prices = refl

no_q : verdict_on one_leg (record { q = pos 0; x = pos 0 ∷ pos 0 ∷ []; den = pos 1; p = pos 100 ∷ []; value = pos 1800 }) ≡ WrongShape
no_q = refl

no_den : verdict_on one_leg (record { q = pos 1; x = pos 4 ∷ pos 6 ∷ []; den = pos 0; p = pos 100 ∷ []; value = pos 1800 }) ≡ WrongShape
no_den = refl

below_nought : verdict_on one_leg (record { q = pos 1; x = pos 4 ∷ negsuc 0 ∷ []; den = pos 1; p = pos 100 ∷ []; value = pos 1800 }) ≡ WrongShape
below_nought = refl

at_the_limit : verdict_on one_leg (record { q = pos 1; x = pos 4 ∷ pos 6 ∷ []; den = pos 1; p = pos 100 ∷ []; value = pos 281474976710656 }) ≡ WrongShape
at_the_limit = refl

below_the_limit : verdict_on one_leg (record { q = pos 1; x = pos 4 ∷ pos 6 ∷ []; den = pos 1; p = pos 100 ∷ []; value = pos 281474976710655 }) ≡ WrongValue
below_the_limit = refl

-- ---- the other conditions, one of which fails
above_capacity : verdict_on one_leg (record { q = pos 1; x = pos 4 ∷ pos 7 ∷ []; den = pos 1; p = pos 100 ∷ []; value = pos 1800 }) ≡ WrongLeg 0
above_capacity = refl

priced_with_seats_left : verdict_on one_leg (record { q = pos 1; x = pos 4 ∷ pos 5 ∷ []; den = pos 1; p = pos 100 ∷ []; value = pos 1800 }) ≡ WrongLeg 0
priced_with_seats_left = refl

rejected_above_bid_price : verdict_on one_leg (record { q = pos 1; x = pos 3 ∷ pos 7 ∷ []; den = pos 1; p = pos 100 ∷ []; value = pos 1800 }) ≡ WrongProduct 0
rejected_above_bid_price = refl

wrong_value : verdict_on one_leg (record { q = pos 1; x = pos 4 ∷ pos 6 ∷ []; den = pos 1; p = pos 100 ∷ []; value = pos 1799 }) ≡ WrongValue
wrong_value = refl

-- ---- two legs of 40 seats, and five products: of each two neighbouring conditions both fail, and the first in order is named
abbrev pub two_legs : ProgramValue
two_legs = record {
  caps = 40 ∷ 40 ∷ [];
  bounds = 12 ∷ 28 ∷ 16 ∷ 32 ∷ 0 ∷ [];
  fares = 400 ∷ 150 ∷ 500 ∷ 80 ∷ 229 ∷ [];
  legs = (0 ∷ []) ∷ (0 ∷ []) ∷ (0 ∷ 1 ∷ []) ∷ (1 ∷ []) ∷ (0 ∷ 1 ∷ []) ∷ [];
}

none_fails : verdict_on two_legs (record { q = pos 1; x = pos 12 ∷ pos 12 ∷ pos 16 ∷ pos 24 ∷ pos 0 ∷ []; den = pos 1; p = pos 150 ∷ pos 80 ∷ []; value = pos 16520 }) ≡ Optimal
none_fails = refl

-- the value is negative, and product 0 has 13 seats with a demand of 12
shape_then_demand : verdict_on two_legs (record { q = pos 1; x = pos 13 ∷ pos 11 ∷ pos 16 ∷ pos 24 ∷ pos 0 ∷ []; den = pos 1; p = pos 150 ∷ pos 80 ∷ []; value = negsuc 16519 }) ≡ WrongShape
shape_then_demand = refl

-- product 0 has 13 seats with a demand of 12, and leg 0 has 41 seats sold
demand_then_capacity : verdict_on two_legs (record { q = pos 1; x = pos 13 ∷ pos 12 ∷ pos 16 ∷ pos 24 ∷ pos 0 ∷ []; den = pos 1; p = pos 150 ∷ pos 80 ∷ []; value = pos 16520 }) ≡ WrongProduct 0
demand_then_capacity = refl

-- leg 1 has 41 seats sold, and leg 0 a seat left at a bid price of 150
capacity_then_seats_left : verdict_on two_legs (record { q = pos 1; x = pos 12 ∷ pos 11 ∷ pos 16 ∷ pos 25 ∷ pos 0 ∷ []; den = pos 1; p = pos 150 ∷ pos 80 ∷ []; value = pos 16520 }) ≡ WrongLeg 1
capacity_then_seats_left = refl

-- leg 0 has a seat left at a bid price of 150, and product 0 at 400 turned one request away
seats_left_then_rejected : verdict_on two_legs (record { q = pos 1; x = pos 11 ∷ pos 12 ∷ pos 16 ∷ pos 24 ∷ pos 0 ∷ []; den = pos 1; p = pos 150 ∷ pos 80 ∷ []; value = pos 16520 }) ≡ WrongLeg 0
seats_left_then_rejected = refl

-- product 2 at 500 turned one request away at bid prices of 231, and product 1 at 150 was sold below 151
rejected_then_accepted : verdict_on two_legs (record { q = pos 1; x = pos 12 ∷ pos 13 ∷ pos 15 ∷ pos 25 ∷ pos 0 ∷ []; den = pos 1; p = pos 151 ∷ pos 80 ∷ []; value = pos 16532 }) ≡ WrongProduct 2
rejected_then_accepted = refl

-- product 3 at 80 was sold below 81, and the cost of the bid prices is 16544
accepted_then_value : verdict_on two_legs (record { q = pos 1; x = pos 12 ∷ pos 12 ∷ pos 16 ∷ pos 24 ∷ pos 0 ∷ []; den = pos 1; p = pos 150 ∷ pos 81 ∷ []; value = pos 16520 }) ≡ WrongProduct 3
accepted_then_value = refl

-- ---- of two products, or two legs, the least is named
both_above_demand : verdict_on one_leg (record { q = pos 1; x = pos 5 ∷ pos 9 ∷ []; den = pos 1; p = pos 100 ∷ []; value = pos 1800 }) ≡ WrongProduct 0
both_above_demand = refl

both_above_capacity : verdict_on two_legs (record { q = pos 1; x = pos 12 ∷ pos 13 ∷ pos 16 ∷ pos 25 ∷ pos 0 ∷ []; den = pos 1; p = pos 150 ∷ pos 80 ∷ []; value = pos 16520 }) ≡ WrongLeg 0
both_above_capacity = refl

both_with_seats_left : verdict_on two_legs (record { q = pos 1; x = pos 12 ∷ pos 11 ∷ pos 16 ∷ pos 23 ∷ pos 0 ∷ []; den = pos 1; p = pos 150 ∷ pos 80 ∷ []; value = pos 16520 }) ≡ WrongLeg 0
both_with_seats_left = refl

-- all prices 0 and nothing sold: both products turn requests away
both_rejected : verdict_on one_leg (record { q = pos 1; x = pos 0 ∷ pos 0 ∷ []; den = pos 1; p = pos 0 ∷ []; value = pos 2000 }) ≡ WrongProduct 0
both_rejected = refl

-- bid prices of 301 are above both fares
both_accepted : verdict_on one_leg (record { q = pos 1; x = pos 4 ∷ pos 6 ∷ []; den = pos 1; p = pos 301 ∷ []; value = pos 3010 }) ≡ WrongProduct 0
both_accepted = refl
