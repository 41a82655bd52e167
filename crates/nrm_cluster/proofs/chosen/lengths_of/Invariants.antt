use Rattle.nrm_cluster.proofs.Choices.{IsWalk}
use Rattle.nrm_cluster.proofs.chosen.lengths_of.Given as goal

abbrev pub invariant-loop-done : goal.invariant-loop-done
invariant-loop-done l = IsWalk (record { values = l.values; weights = l.weights }) l.pieces l.done l.a l.lengths.items
