use Rattle.std.proofs.Common.{◌≡◌, ◌-◌, length}
use Rattle.nrm_cluster.specs.Inner.Pieces.{piece_of}
use Rattle.nrm_cluster.proofs.Columns.{IsColumnSoFar}
use Rattle.nrm_cluster.proofs.table.next_column.Given as goal

abbrev pub invariant-loop-before : goal.invariant-loop-before
invariant-loop-before l = record {
  column : IsColumnSoFar (record { values = l.values; weights = l.weights }) l.groups l.left l.before l.column.items;
  piece : l.piece ≡ piece_of (record { values = l.values; weights = l.weights }) (length l.values - l.left) l.before;
}
