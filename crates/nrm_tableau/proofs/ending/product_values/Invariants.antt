-- The values are those of the products so far.
use Rattle.std.proofs.Common.{◌≡◌, map}
use Rattle.std.specs.List.{range_with_len}
use Rattle.nrm_lp.specs.Closing.{basic_value}
use Rattle.nrm_lp.specs.Tableau.{right_side}
use Rattle.nrm_tableau.proofs.ending.product_values.Given as goal

abbrev pub invariant-loop-product : goal.invariant-loop-product
invariant-loop-product l = l.values.items ≡ map (λ j. basic_value (right_side l.program) j l.basis l.rows) (range_with_len 0 l.product)
