-- The rows are those of the first tableau so far.
use Rattle.std.proofs.Common.{◌≡◌, suc, map}
use Rattle.std.specs.List.{range_with_len}
use Rattle.nrm_lp.specs.Tableau.{first_entry, right_side}
use Rattle.nrm_tableau.proofs.first.first_rows.Given as goal

abbrev pub invariant-loop-row : goal.invariant-loop-row
invariant-loop-row l = l.rows.items ≡ map (λ i. map (first_entry l.program i) (range_with_len 0 (suc (right_side l.program)))) (range_with_len 0 l.row)
