-- The rows so far are combined, and those of them that changed are in the set.
use Rattle.std.proofs.Common.{◌≡◌, ◌≤◌, ◌+◌, ◌-◌, ℕ, length}
use Rattle.nrm_tableau.specs.RowSets.{row_bit}
use Rattle.nrm_tableau.proofs.Combined.{IsCombinedTo}
use Rattle.nrm_tableau.proofs.pivot.combine_each.Given as goal

abbrev pub invariant-loop-number : goal.invariant-loop-number
invariant-loop-number l = record {
  same : l.walk.words.now ≡ l.touched;
  count : length l.walk.words.now ≡ 5;
  low : l.first ≤ l.walk.from;
  high : l.walk.from ≤ l.first + length l.initial.rows;
  made : IsCombinedTo l.col l.unit l.initial.rows l.first l.rows l.changed (l.walk.from - l.first);
  kept : (r : ℕ) → row_bit l.initial.changed r ≡ 1 → row_bit l.changed r ≡ 1;
}

abbrev pub decreases-loop-number : goal.decreases-loop-number
decreases-loop-number l = l.first + length l.rows - l.walk.from
