use Rattle.nrm_cluster.proofs.Walks.{IsListing}
use Rattle.nrm_cluster.specs.Divisions.{centres_from}
use Rattle.nrm_cluster.proofs.cuts.centres_of.Given as goal

abbrev pub invariant-loop-k : goal.invariant-loop-k
invariant-loop-k l = IsListing (centres_from (record { values = l.values; weights = l.weights })) (record { values = l.values; weights = l.weights }) l.lengths l.k l.a l.centres.items
