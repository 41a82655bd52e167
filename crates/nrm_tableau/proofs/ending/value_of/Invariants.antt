-- The product is basic in none of the rows so far.
use Rattle.std.proofs.Common.{◌≡◌, drop}
use Rattle.nrm_lp.specs.Closing.{basic_value}
use Rattle.nrm_tableau.proofs.ending.value_of.Given as goal

abbrev pub invariant-loop-row : goal.invariant-loop-row
invariant-loop-row l = basic_value l.end l.product (drop l.row l.basis) (drop l.row l.rows) ≡ basic_value l.end l.product l.basis l.rows
