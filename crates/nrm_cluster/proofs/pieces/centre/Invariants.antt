use Rattle.std.proofs.Common.{◌≡◌}
use Rattle.nrm_cluster.specs.Inner.Pieces.{piece_of}
use Rattle.nrm_cluster.proofs.pieces.centre.Given as goal

abbrev pub invariant-loop : goal.invariant-loop
invariant-loop l = l.piece ≡ piece_of (record { values = l.values; weights = l.weights }) l.a l.counter
