use Rattle.std.proofs.Common.{◌≡◌, ◌+◌, ◌<◌, ◌≤◌, ℕ, get_or, length}
use Rattle.nrm_cluster.specs.declared.table.Cell.{Cell}
use Rattle.nrm_cluster.specs.Inner.Cells.{cheaper_of, led_of}
use Rattle.nrm_cluster.proofs.table.add_first.Given as goal

abbrev pub invariant-loop-k : goal.invariant-loop-k
invariant-loop-k l = record {
  long : length l.column ≡ length l.initial.column;
  none : (d : Cell) → get_or l.column 0 d ≡ get_or l.initial.column 0 d;
  done : (j : ℕ) (d : Cell) → j + 1 < l.k → get_or l.column (j + 1) d ≡ cheaper_of (get_or l.initial.column (j + 1) d) (led_of l.fn.cost l.fn.first (get_or l.fn.rest j d));
  left : (j : ℕ) (d : Cell) → l.k ≤ j → get_or l.column j d ≡ get_or l.initial.column j d;
}
