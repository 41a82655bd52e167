-- The tableau is on the path, and what is left of the measure.
use Rattle.nrm_simplex.proofs.Walk.{IsWalked, walk_left}
use Rattle.nrm_simplex.proofs.path.solve.Given as goal

abbrev pub invariant-loop-col : goal.invariant-loop-col
invariant-loop-col l = IsWalked l.program l.tableau l.pivots

abbrev pub decreases-loop-col : goal.decreases-loop-col
decreases-loop-col l = walk_left l.tableau
