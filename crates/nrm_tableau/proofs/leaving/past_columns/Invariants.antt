-- None of the columns so far enters.
use Rattle.std.proofs.Common.{◌≡◌, ◌≤◌, ◌-◌, drop}
use Rattle.nrm_lp.specs.Tableau.{entering_from}
use Rattle.nrm_tableau.proofs.leaving.past_columns.Given as goal

abbrev pub invariant-loop-col : goal.invariant-loop-col
invariant-loop-col l = (l.col ≤ l.end) × (entering_from l.col (drop l.col l.value) ≡ entering_from 0 l.value)

abbrev pub decreases-loop-col : goal.decreases-loop-col
decreases-loop-col l = l.end - l.col
