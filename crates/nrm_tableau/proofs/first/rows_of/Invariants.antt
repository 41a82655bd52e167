-- The set has the row of the bound, and those of the legs so far.
use Rattle.std.proofs.Common.{◌+◌, length, take}
use Rattle.nrm_tableau.proofs.Sets.{HasLegs}
use Rattle.nrm_tableau.proofs.first.rows_of.Given as goal

abbrev pub invariant-loop-leg : goal.invariant-loop-leg
invariant-loop-leg l = HasLegs l.rows (length l.program.caps + l.product) (take l.leg-index l.leg-items)
