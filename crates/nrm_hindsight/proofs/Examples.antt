-- Requests, tallies and selections on small networks, which a reader can check by hand.
use Rattle.std.proofs.Common.{ap, arith, lit<, zero, suc}
use Rattle.std.specs.Prelude.{ℕ, ◌≡◌, ◌<◌, ◌≤◌, ◌≤ℤ◌, ◌*◌, pos, List, [], ◌∷◌, codes, refl}
use Rattle.nrm_fraction.specs.Fraction.{Fraction}
use Rattle.nrm_model.specs.Inventory.{inventory_of, authorised_of}
use Rattle.nrm_model.specs.Network.{NetworkValue}
use Rattle.nrm_lp.specs.Program.{cost}
use Rattle.nrm_dlp.specs.Programs.{hindsight_program}
use Rattle.nrm_hindsight.specs.Requests.{Request, asked_for, requests_of, tallies_of}
use Rattle.nrm_hindsight.specs.Selections.{BoundsSelections, ChosenFrom, IsSelection, earned_by, seats_asked_on, taken_of_each}
use Rattle.nrm_hindsight.specs.Selections.ChosenFrom.{none, left_out, taken}

-- one leg of two seats: two cheap requests of one, and a dear one of three after one of two
abbrev two_fares : NetworkValue
two_fares = record {
  histories = 1;
  periods = 1;
  legs = record { name = codes "X"; seats = 2; authorised = 2; cuts = [] } ∷ [];
  products = record { name = codes "LO"; fare = 100; refund = 100; legs = 0 ∷ [] } ∷ record { name = codes "HI"; fare = 300; refund = 100; legs = 0 ∷ [] } ∷ [];
  demand = 0 ∷ 0 ∷ [];
}

abbrev low : Request
low = record { product = 0; party = 1 }

abbrev high : ℕ → Request
high party = record { product = 1; party = party }

abbrev low_then_high : List Request
low_then_high = low ∷ low ∷ high 2 ∷ high 3 ∷ []

asked : asked_for low_then_high 1 ≡ 5
asked = refl

-- the dear product's tally ends at the two authorised seats of its leg
tallied : tallies_of two_fares low_then_high ≡ 2 ∷ 2 ∷ []
tallied = refl

were : requests_of (record { number = 7; product = 1; party = 2 } ∷ []) ≡ high 2 ∷ []
were = refl

each_taken : taken_of_each two_fares (low ∷ high 2 ∷ low ∷ []) ≡ 2 ∷ 2 ∷ []
each_taken = refl

-- a request is taken whole and once, so the dear one of two is a choice, and a part of it is none
the_dear_one : IsSelection two_fares low_then_high (high 2 ∷ [])
the_dear_one = record { choice = left_out (left_out (taken (left_out none))); fits = λ i below. one i below }
  where
    one : (i : ℕ) → i < 1 → seats_asked_on two_fares (high 2 ∷ []) i ≤ authorised_of (inventory_of two_fares) i
    one zero below = omega arith
    one (suc i) below = absurd (omega (arith, below))

abbrev party_of_first : List Request → ℕ
party_of_first [] = 0
party_of_first (r ∷ rs) = r.party

a_part_of_it : ChosenFrom (high 2 ∷ []) (high 1 ∷ []) → ⊥
a_part_of_it choice = by (high 2 ∷ []) (high 1 ∷ []) refl refl choice
  where
    by : (requests chosen : List Request) → requests ≡ high 2 ∷ [] → chosen ≡ high 1 ∷ [] → ChosenFrom requests chosen → ⊥
    by requests chosen e f none = cc
    by requests chosen e f (left_out none) = cc
    by requests chosen e f (left_out (left_out choice)) = cc
    by requests chosen e f (left_out (taken choice)) = cc
    by requests chosen e f (taken choice) = let two = ap party_of_first e in let one = ap party_of_first f in omega (arith, two, one)

-- what doesn't fit is no selection
all_of_them : IsSelection two_fares low_then_high low_then_high → ⊥
all_of_them is = let on = is.fits 0 (lit< tt) in omega (arith, on)

earned : earned_by two_fares (low ∷ high 2 ∷ []) ≡ 700
earned = refl

-- 600 is earned by the dear one, and so 599 is no bound
below_the_best : (value : Fraction) → value.num ≡ pos 599 → value.den ≡ 1 → BoundsSelections two_fares low_then_high value → ⊥
below_the_best value num den bounds = absurd (by (rw (num, den) at (bounds (high 2 ∷ []) the_dear_one)))
  where
    by : pos (600 * 1) ≤ℤ pos 599 → ⊥
    by below = omega (arith, below)

-- ---- three seats on the first leg, of which four are authorised, and two on the second, of which one is
abbrev authorised_otherwise : NetworkValue
authorised_otherwise = record {
  histories = 1;
  periods = 1;
  legs = record { name = codes "X"; seats = 3; authorised = 4; cuts = [] } ∷ record { name = codes "Y"; seats = 2; authorised = 1; cuts = [] } ∷ [];
  products = record { name = codes "OWN"; fare = 100; refund = 100; legs = 0 ∷ [] } ∷ record { name = codes "BOTH"; fare = 300; refund = 100; legs = 0 ∷ 1 ∷ [] } ∷ [];
  demand = 0 ∷ 0 ∷ [];
}

abbrev own : ℕ → Request
own party = record { product = 0; party = party }

abbrev both : ℕ → Request
both party = record { product = 1; party = party }

-- a tally ends at the least authorised seats, above the physical ones and below them
tallied_to_the_authorised : tallies_of authorised_otherwise (own 9 ∷ both 9 ∷ []) ≡ 4 ∷ 1 ∷ []
tallied_to_the_authorised = refl

-- four seats fit the first leg, and one fits the second
four_on_three : IsSelection authorised_otherwise (own 4 ∷ []) (own 4 ∷ [])
four_on_three = record { choice = taken none; fits = λ i below. each i below }
  where
    each : (i : ℕ) → i < 2 → seats_asked_on authorised_otherwise (own 4 ∷ []) i ≤ authorised_of (inventory_of authorised_otherwise) i
    each zero below = omega arith
    each (suc zero) below = omega arith
    each (suc (suc i)) below = absurd (omega (arith, below))

five_on_three : IsSelection authorised_otherwise (own 5 ∷ []) (own 5 ∷ []) → ⊥
five_on_three is = let on = is.fits 0 (lit< tt) in omega (arith, on)

two_on_two : IsSelection authorised_otherwise (both 2 ∷ []) (both 2 ∷ []) → ⊥
two_on_two is = let on = is.fits 1 (lit< tt) in omega (arith, on)

-- three legs of one seat and three products on two legs each: prices of 101, 99 and 101 over 2 cost 301 over 2
abbrev three_pairs : NetworkValue
three_pairs = record {
  histories = 1;
  periods = 1;
  legs = record { name = codes "X"; seats = 1; authorised = 1; cuts = [] } ∷ record { name = codes "Y"; seats = 1; authorised = 1; cuts = [] } ∷ record { name = codes "Z"; seats = 1; authorised = 1; cuts = [] } ∷ [];
  products = record { name = codes "P1"; fare = 100; refund = 100; legs = 0 ∷ 1 ∷ [] } ∷ record { name = codes "P2"; fare = 100; refund = 100; legs = 1 ∷ 2 ∷ [] } ∷ record { name = codes "P3"; fare = 101; refund = 100; legs = 2 ∷ 0 ∷ [] } ∷ [];
  demand = 0 ∷ 0 ∷ 0 ∷ [];
}

half_of_each : cost (hindsight_program three_pairs (1 ∷ 1 ∷ 1 ∷ [])) 2 (101 ∷ 99 ∷ 101 ∷ []) ≡ 301
half_of_each = refl
