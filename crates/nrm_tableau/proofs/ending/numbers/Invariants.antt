-- The numbers are those of the columns so far.
use Rattle.std.proofs.Common.{◌≡◌, take}
use Rattle.nrm_fraction.specs.Large.{common, numerators}
use Rattle.nrm_tableau.proofs.ending.numbers.Given as goal

abbrev pub invariant-loop-col : goal.invariant-loop-col
invariant-loop-col l = l.made.items ≡ take l.col (numerators (common l.row) l.row)
