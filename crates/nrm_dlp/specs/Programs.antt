-- The programs of a network.
use Rattle.std.specs.Prelude.{ℕ, ◌*◌, List, map, length}
use Rattle.std.specs.List.{range_with_len}
use Rattle.nrm_model.specs.Network.{NetworkValue}
use Rattle.nrm_model.specs.Demand.{total_to_come}
use Rattle.nrm_model.specs.Inventory.{inventory_of}
use Rattle.nrm_lp.specs.Program.{ProgramValue}

-- the program with these caps, leg by leg, and bounds, product by product: the fares and the legs are those of the
-- network
abbrev pub program_of : NetworkValue → List ℕ → List ℕ → ProgramValue
program_of net caps bounds = record { caps = caps; bounds = bounds; fares = (inventory_of net).fares; legs = (inventory_of net).legs }

-- the program at these seats left and from this period on: over all histories together, so that every number is whole: each leg
-- has its seats left in each history, and a product is bounded by its demand to come in all histories
abbrev pub program_at : NetworkValue → List ℕ → ℕ → ProgramValue
program_at net left period =
    program_of net (map (λ seats. net.histories * seats) left)
    (map (λ product. total_to_come net product period) (range_with_len 0 (length net.products)))

-- the program of hindsight: the past requests once and not the histories' demand, so a leg has its authorised seats once, and a product
-- is bounded by its tally
abbrev pub hindsight_program : NetworkValue → List ℕ → ProgramValue
hindsight_program net tallies = program_of net (inventory_of net).authorised tallies

-- the program before anything is sold: that of period 1 with every authorised seat left
abbrev pub opening_program : NetworkValue → ProgramValue
opening_program net = program_at net (inventory_of net).authorised 1
