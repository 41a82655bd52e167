use Rattle.std.proofs.Common.{◌+◌}
use Rattle.nrm_cluster.proofs.Growing.{HasCome}
use Rattle.nrm_cluster.proofs.pieces.Piece.next_middle.Given as goal

abbrev pub invariant-loop-place : goal.invariant-loop-place
invariant-loop-place l = HasCome (record { values = l.values; weights = l.weights }) l.fn.self.start (l.fn.self.count + 1) l.place l.above
