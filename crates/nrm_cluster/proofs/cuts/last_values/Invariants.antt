use Rattle.nrm_cluster.proofs.Walks.{IsListing}
use Rattle.nrm_cluster.specs.Divisions.{cuts_from}
use Rattle.nrm_cluster.proofs.cuts.last_values.Given as goal

abbrev pub invariant-loop-k : goal.invariant-loop-k
invariant-loop-k l = IsListing (cuts_from (record { values = l.values; weights = l.weights })) (record { values = l.values; weights = l.weights }) l.lengths l.k l.a l.cuts.items
