-- None of the rows so far is Large.
use Rattle.std.proofs.Common.{◌≡◌, ◌<◌, ℕ, List, get_or, None}
use Rattle.nrm_fraction.specs.Fraction.{Fraction}
use Rattle.nrm_fraction.specs.Large.{large_number, size_limit}
use Rattle.nrm_tableau.proofs.pivot.none_is_large.Given as goal

abbrev pub invariant-loop-row : goal.invariant-loop-row
invariant-loop-row l = (k : ℕ) (d : List Fraction) → k < l.row-index → large_number size_limit (get_or l.rows k d) ≡ None
