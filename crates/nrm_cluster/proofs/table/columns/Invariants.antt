use Rattle.std.proofs.Common.{◌≡◌, length}
use Rattle.nrm_cluster.specs.Inner.Cells.{AreColumns, columns_in}
use Rattle.nrm_cluster.proofs.table.columns.Given as goal

abbrev pub invariant-loop : goal.invariant-loop
invariant-loop l = record { count : length l.columns.items ≡ l.counter; columns : AreColumns (record { values = l.values; weights = l.weights }) l.groups (columns_in l.columns.items) }
