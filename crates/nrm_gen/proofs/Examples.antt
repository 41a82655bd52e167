-- Networks and commands of the numbers 0 and 1. What is wanted comes from an account of the words alone, not from the definitions.
use Rattle.std.specs.Prelude.{◌≡◌, [], ◌∷◌, codes, length, map, Some, None, refl, slice_get, slice_index, take, drop}
use Rattle.std.proofs.Common.{arith}
use Rattle.std.specs.List.{range_with_len}
use Rattle.nrm_gen.specs.Laws.{UsesOneLegEachWay}
use Rattle.nrm_stream.specs.declared.command.Command.TheVariants as command
use Rattle.nrm_gen.specs.Draws.{draw_of, state_after}
use Rattle.nrm_gen.specs.MadeNetwork.{leg_name, made_demand, made_leg, made_network, made_product, product_name}
use Rattle.nrm_gen.specs.MadeCommands.{after_next, command_at, commands_from, made_commands, next_of}

-- ---- draws
first_draw : (state_after 0 1 ≡ 12345) × (draw_of 0 0 40 ≡ 0)
unfolding state_after
first_draw = (refl, refl)

first_states : map (state_after 1) (range_with_len 0 4) ≡ 1 ∷ 1103527590 ∷ 377401575 ∷ 662824084 ∷ []
unfolding state_after
first_states = refl

-- 2 ^ 31 is begun like 0, and the greatest number like 2 ^ 31 - 1
begun_below : (state_after 2147483648 0 ≡ 0) × (state_after 4294967295 0 ≡ 2147483647)
unfolding state_after
begun_below = (refl, refl)

after_the_network : state_after 1 1992 ≡ 1549932665
unfolding state_after
after_the_network = refl

-- ---- names
leg_names : map leg_name (range_with_len 0 12)
    ≡ codes "I1" ∷ codes "I2" ∷ codes "I3" ∷ codes "I4" ∷ codes "I5" ∷ codes "I6" ∷ codes "O1" ∷ codes "O2" ∷ codes "O3" ∷ codes "O4"
    ∷ codes "O5" ∷ codes "O6" ∷ []
leg_names = refl

product_names : map product_name (0 ∷ 1 ∷ 2 ∷ 22 ∷ 23 ∷ 24 ∷ 25 ∷ 30 ∷ 59 ∷ [])
    ≡ codes "I1-H" ∷ codes "I1-L" ∷ codes "I2-H" ∷ codes "O6-H" ∷ codes "O6-L" ∷ codes "T1-1" ∷ codes "T1-2" ∷ codes "T2-1" ∷ codes "T6-6"
    ∷ []
product_names = refl

-- ---- networks
first_leg : made_leg 0 0 ≡ record { name = codes "I1"; seats = 40; authorised = 40; cuts = 400 ∷ 200 ∷ 100 ∷ [] }
unfolding state_after
first_leg = refl

some_legs : (made_leg 1 0 ≡ record { name = codes "I1"; seats = 78; authorised = 78; cuts = 400 ∷ 200 ∷ 100 ∷ [] })
    × (made_leg 1 5 ≡ record { name = codes "I6"; seats = 67; authorised = 67; cuts = 400 ∷ 200 ∷ 100 ∷ [] })
    × (made_leg 1 6 ≡ record { name = codes "O1"; seats = 50; authorised = 50; cuts = 400 ∷ 200 ∷ 100 ∷ [] })
    × (made_leg 1 11 ≡ record { name = codes "O6"; seats = 47; authorised = 47; cuts = 400 ∷ 200 ∷ 100 ∷ [] })
unfolding state_after
some_legs = (refl, refl, refl, refl)

local_products : (made_product 1 0 ≡ record { name = codes "I1-H"; fare = 384; refund = 100; legs = 0 ∷ [] })
    × (made_product 1 1 ≡ record { name = codes "I1-L"; fare = 160; refund = 100; legs = 0 ∷ [] })
    × (made_product 1 22 ≡ record { name = codes "O6-H"; fare = 351; refund = 100; legs = 11 ∷ [] })
    × (made_product 1 23 ≡ record { name = codes "O6-L"; fare = 167; refund = 100; legs = 11 ∷ [] })
unfolding state_after
local_products = (refl, refl, refl, refl)

through_products : (made_product 1 24 ≡ record { name = codes "T1-1"; fare = 504; refund = 100; legs = 0 ∷ 6 ∷ [] })
    × (made_product 1 25 ≡ record { name = codes "T1-2"; fare = 603; refund = 100; legs = 0 ∷ 7 ∷ [] })
    × (made_product 1 30 ≡ record { name = codes "T2-1"; fare = 635; refund = 100; legs = 1 ∷ 6 ∷ [] })
    × (made_product 1 59 ≡ record { name = codes "T6-6"; fare = 540; refund = 100; legs = 5 ∷ 11 ∷ [] })
unfolding state_after
through_products = (refl, refl, refl, refl)

some_demand : (take 8 (made_demand 1) ≡ 2 ∷ 0 ∷ 4 ∷ 0 ∷ 4 ∷ 1 ∷ 1 ∷ 0 ∷ []) × (slice_index (made_demand 1) 1000 ≡ 5)
    × (drop 1912 (made_demand 1) ≡ 1 ∷ 3 ∷ 4 ∷ 3 ∷ 5 ∷ 0 ∷ 3 ∷ 4 ∷ [])
unfolding state_after made_demand
some_demand = (refl, refl, refl)

in_all : (length (made_network 1).legs ≡ 12) × (length (made_network 1).products ≡ 60) × (length (made_network 1).demand ≡ 1920)
unfolding state_after made_demand made_network
in_all = (refl, refl, refl)

-- ---- commands
first_commands : take 2 (made_commands 1) ≡ command.Book (codes "T3-3") 2 ∷ command.Book (codes "O5-L") 2 ∷ []
unfolding state_after commands_from
first_commands = refl

-- the first leg and the first cancellation among them, with what stands beside them
first_leg_text : take 2 (drop 11 (made_commands 1)) ≡ command.Leg (codes "I6") ∷ command.Book (codes "T4-1") 3 ∷ []
unfolding state_after commands_from
first_leg_text = refl

first_cancellation : take 3 (drop 14 (made_commands 1))
    ≡ command.Book (codes "T2-2") 3 ∷ command.Cancel 325 ∷ command.Book (codes "O5-L") 1 ∷ []
unfolding state_after commands_from
first_cancellation = refl

-- an optimisation draws nothing
optimisations : (take 3 (drop 2498 (made_commands 1)) ≡ command.Cancel 262 ∷ command.Reoptimise 2 ∷ command.Book (codes "O1-H") 3 ∷ [])
    × (slice_get (made_commands 1) 4999 ≡ Some (command.Reoptimise 3))
    × (slice_get (made_commands 1) 7499 ≡ Some (command.Reoptimise 4)) × (command_at 2500 410375136 ≡ (command.Reoptimise 2, 410375136))
unfolding state_after commands_from
optimisations = (refl, refl, refl, refl)

last_commands : drop 9997 (made_commands 1) ≡ command.Book (codes "T5-2") 3 ∷ command.Book (codes "O4-L") 1 ∷ command.Hindsight ∷ []
unfolding state_after commands_from
last_commands = refl

-- ---- one after another
begun : next_of (record { state = 1549932665; given = 0 }) ≡ Some (command.Book (codes "T3-3") 2)
begun = refl

at_the_last : (next_of (record { state = 441979785; given = 9999 }) ≡ Some command.Hindsight)
    × (after_next (record { state = 441979785; given = 9999 }) ≡ record { state = 441979785; given = 10000 })
at_the_last = (refl, refl)

after_the_last : (next_of (record { state = 441979785; given = 10000 }) ≡ None)
    × (after_next (record { state = 441979785; given = 10000 }) ≡ record { state = 441979785; given = 10000 })
after_the_last = (refl, refl)

-- ---- a product on two inbound legs, or on two outbound ones, doesn't use one leg each way; the last inbound leg is the sixth
two_inbound : UsesOneLegEachWay (record { name = codes "X"; fare = 1; refund = 100; legs = 0 ∷ 5 ∷ [] }) → ⊥
two_inbound uses = omega (arith, uses.inbound)

two_outbound : UsesOneLegEachWay (record { name = codes "X"; fare = 1; refund = 100; legs = 6 ∷ 11 ∷ [] }) → ⊥
two_outbound uses = omega (arith, uses.outbound)

one_each_way : UsesOneLegEachWay (record { name = codes "X"; fare = 1; refund = 100; legs = 5 ∷ 6 ∷ [] })
one_each_way = record { inbound = omega arith; outbound = omega arith }
