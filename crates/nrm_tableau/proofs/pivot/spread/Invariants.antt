-- The sets have the rows that changed at the columns so far.
use Rattle.std.proofs.Common.{take}
use Rattle.nrm_tableau.proofs.Sets.{IsSpreadTo}
use Rattle.nrm_tableau.proofs.pivot.spread.Given as goal

abbrev pub invariant-loop-col : goal.invariant-loop-col
invariant-loop-col l = IsSpreadTo l.initial.sets l.sets l.changed (take l.col-index l.entries)
