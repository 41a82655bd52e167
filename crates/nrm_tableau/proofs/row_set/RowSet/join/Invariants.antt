-- The words so far are joined.
use Rattle.nrm_tableau.proofs.RowBits.{IsJoinedTo}
use Rattle.nrm_tableau.proofs.row_set.RowSet.join.Given as goal

abbrev pub invariant-loop-i : goal.invariant-loop-i
invariant-loop-i l = IsJoinedTo l.initial.self-inside.words l.other-inside.words l.self-inside.words l.i
