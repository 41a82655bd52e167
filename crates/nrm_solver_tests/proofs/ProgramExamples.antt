-- The programs of three networks, which a reader can check by hand.
use Rattle.std.specs.Prelude.{◌≡◌, ◌<◌, ◌≤◌, [], ◌∷◌, refl}
use Rattle.std.proofs.Common.{ℕ, zero, suc, arith, get_or}
use Rattle.nrm_model.specs.Network.{least_authorised_of}
use Rattle.nrm_samples.specs.Networks.{two_legs_authorised, two_legs_five_products, two_legs_last_first}
use Rattle.nrm_samples.specs.Programs.{two_legs_five_products_program}
use Rattle.nrm_dlp.specs.Hindsight.{AreTallies}
use Rattle.nrm_dlp.specs.Programs.{hindsight_program, opening_program, program_at, program_of}

-- at opening: 3 and 2 seats in two histories, and the demand of both periods in both
at_opening : opening_program two_legs_last_first
    ≡ record { caps = 6 ∷ 4 ∷ []; bounds = 6 ∷ 10 ∷ []; fares = 500 ∷ 200 ∷ []; legs = (1 ∷ 0 ∷ []) ∷ (0 ∷ []) ∷ [] }
at_opening = refl

-- in the second period, with one seat sold on the first leg and the second one full
later : program_at two_legs_last_first (2 ∷ 0 ∷ []) 2
    ≡ record { caps = 4 ∷ 0 ∷ []; bounds = 5 ∷ 1 ∷ []; fares = 500 ∷ 200 ∷ []; legs = (1 ∷ 0 ∷ []) ∷ (0 ∷ []) ∷ [] }
later = refl

-- the second history alone
alone : program_of two_legs_last_first (3 ∷ 2 ∷ []) (3 ∷ 6 ∷ [])
    ≡ record { caps = 3 ∷ 2 ∷ []; bounds = 3 ∷ 6 ∷ []; fares = 500 ∷ 200 ∷ []; legs = (1 ∷ 0 ∷ []) ∷ (0 ∷ []) ∷ [] }
alone = refl

-- hindsight: each leg has its authorised seats once, and the tallies are the bounds
by_hindsight : hindsight_program two_legs_last_first (2 ∷ 3 ∷ [])
    ≡ record { caps = 3 ∷ 2 ∷ []; bounds = 2 ∷ 3 ∷ []; fares = 500 ∷ 200 ∷ []; legs = (1 ∷ 0 ∷ []) ∷ (0 ∷ []) ∷ [] }
by_hindsight = refl

-- of the first product no more than the 2 authorised seats of its second leg
above_the_least_authorised : AreTallies two_legs_last_first (3 ∷ 3 ∷ []) → ⊥
above_the_least_authorised are = absurd (omega (arith, are.seats 0 (omega arith)))

one_tally_short : AreTallies two_legs_last_first (2 ∷ []) → ⊥
one_tally_short are = absurd (omega (arith, are.products))

-- ---- legs of 3 seats, of which 4 are authorised, and of 2 seats, of which 1 is: the caps are the authorised seats
authorised_at_opening : opening_program two_legs_authorised
    ≡ record { caps = 4 ∷ 1 ∷ []; bounds = 2 ∷ 3 ∷ []; fares = 500 ∷ 199 ∷ []; legs = (0 ∷ 1 ∷ []) ∷ (0 ∷ []) ∷ [] }
authorised_at_opening = refl

authorised_by_hindsight : hindsight_program two_legs_authorised (1 ∷ 4 ∷ [])
    ≡ record { caps = 4 ∷ 1 ∷ []; bounds = 1 ∷ 4 ∷ []; fares = 500 ∷ 199 ∷ []; legs = (0 ∷ 1 ∷ []) ∷ (0 ∷ []) ∷ [] }
authorised_by_hindsight = refl

-- so of the first product no more than the 1 authorised seat of its second leg, and of the second no more than 4
up_to_the_least_authorised : AreTallies two_legs_authorised (1 ∷ 4 ∷ [])
up_to_the_least_authorised = record { products = refl; seats = λ j few. each j few }
  where
    each : (j : ℕ) → j < 2 → get_or (1 ∷ 4 ∷ []) j 0 ≤ least_authorised_of two_legs_authorised j
    each zero few = omega arith
    each (suc zero) few = omega arith
    each (suc (suc j)) few = absurd (omega (arith, few))

the_physical_seats_of_a_leg : AreTallies two_legs_authorised (2 ∷ 4 ∷ []) → ⊥
the_physical_seats_of_a_leg are = absurd (omega (arith, are.seats 0 (omega arith)))

-- ---- two legs of 10 seats, five products, and four histories of one period
ten_seats_each : opening_program two_legs_five_products ≡ two_legs_five_products_program
ten_seats_each = refl

-- with 7 and 9 seats left; behind its one period there is no demand
when_sold : program_at two_legs_five_products (7 ∷ 9 ∷ []) 1
    ≡ record { caps = 28 ∷ 36 ∷ []; bounds = 12 ∷ 28 ∷ 16 ∷ 32 ∷ 0 ∷ []; fares = 400 ∷ 150 ∷ 500 ∷ 80 ∷ 229 ∷ []; legs = (0 ∷ []) ∷ (0 ∷ []) ∷ (0 ∷ 1 ∷ []) ∷ (1 ∷ []) ∷ (0 ∷ 1 ∷ []) ∷ [] }
when_sold = refl

at_the_end : program_at two_legs_five_products (7 ∷ 9 ∷ []) 2
    ≡ record { caps = 28 ∷ 36 ∷ []; bounds = 0 ∷ 0 ∷ 0 ∷ 0 ∷ 0 ∷ []; fares = 400 ∷ 150 ∷ 500 ∷ 80 ∷ 229 ∷ []; legs = (0 ∷ []) ∷ (0 ∷ []) ∷ (0 ∷ 1 ∷ []) ∷ (1 ∷ []) ∷ (0 ∷ 1 ∷ []) ∷ [] }
at_the_end = refl
