-- The best is that of the rows from this one on.
use Rattle.std.proofs.Common.{◌≡◌, ◌≤◌, length, drop}
use Rattle.nrm_lp.specs.Tableau.{leaving_from, key_columns}
use Rattle.nrm_tableau.specs.Inner.Best.{IsCandidate, listed}
use Rattle.nrm_tableau.proofs.leaving.leaving_row.Given as goal

abbrev pub invariant-loop-row : goal.invariant-loop-row
invariant-loop-row l = record {
  same : l.walk.words.now ≡ l.touched;
  within : l.walk.end ≤ length l.rows;
  candidate : IsCandidate l.rows l.col l.best;
  found : listed l.program l.rows l.col l.best ≡ leaving_from (key_columns l.program) l.col l.walk.end (drop l.walk.end l.rows);
}

abbrev pub decreases-loop-row : goal.decreases-loop-row
decreases-loop-row l = l.walk.end
