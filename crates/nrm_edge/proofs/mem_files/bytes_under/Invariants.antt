-- The first pair of the name is among those to come.
use Rattle.std.proofs.Common.{◌≡◌, drop, map}
use Rattle.nrm_edge.specs.Memory.{stored_under}
use Rattle.nrm_edge.proofs.mem_files.bytes_under.Given as goal

-- no pair so far has the name
abbrev pub invariant-loop-pair : goal.invariant-loop-pair
invariant-loop-pair l = stored_under (map (λ pair. (pair.0.items, pair.1.items)) l.list) l.name
    ≡ stored_under (map (λ pair. (pair.0.items, pair.1.items)) (drop l.pair-index l.list)) l.name
