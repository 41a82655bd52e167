-- At the columns so far their multiples are taken away.
use Rattle.nrm_row.proofs.InPlace.{IsTakenTo}
use Rattle.nrm_row.proofs.in_place.subtract.Given as goal

abbrev pub invariant-loop-col : goal.invariant-loop-col
invariant-loop-col l = IsTakenTo l.initial.xs l.xs l.fn.a l.us l.col-index
