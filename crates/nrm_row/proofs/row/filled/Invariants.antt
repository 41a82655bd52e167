-- The numbers are those of the entries so far.
use Rattle.std.proofs.Common.{◌≡◌, ◌<◌, ℕ, length, get_or, take, pos}
use Rattle.nrm_fraction.specs.Rows.{number_at}
use Rattle.nrm_row.proofs.row.filled.Given as goal

abbrev pub invariant-loop-col : goal.invariant-loop-col
invariant-loop-col l =
    (length l.made.items ≡ l.fn.width) × ((c : ℕ) → c < l.fn.width → get_or l.made.items c (pos 0) ≡ number_at (take l.col-index l.entries) c)
