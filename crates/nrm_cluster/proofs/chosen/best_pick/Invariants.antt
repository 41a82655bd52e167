use Rattle.std.proofs.Common.{◌≤◌}
use Rattle.nrm_cluster.specs.Inner.Table.{cheapest, into_pieces}
use Rattle.nrm_cluster.specs.Inner.Cells.{IsPick}
use Rattle.nrm_cluster.proofs.chosen.best_pick.Given as goal

abbrev pub invariant-loop-before : goal.invariant-loop-before
invariant-loop-before l = record {
  pick : IsPick (into_pieces (record { values = l.values; weights = l.weights })) (cheapest (into_pieces (record { values = l.values; weights = l.weights })) l.before) l.best;
  low : l.best.pieces ≤ l.before;
}
