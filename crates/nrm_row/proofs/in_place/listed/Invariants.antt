-- The list has the columns so far whose number is not 0.
use Rattle.std.proofs.Common.{◌≤◌, ◌-◌, length}
use Rattle.nrm_row.proofs.InPlace.{IsListedTo}
use Rattle.nrm_row.proofs.in_place.listed.Given as goal

abbrev pub invariant-loop-col : goal.invariant-loop-col
invariant-loop-col l = (l.col ≤ length l.nums) × IsListedTo l.nums l.made.items l.col

abbrev pub decreases-loop-col : goal.decreases-loop-col
decreases-loop-col l = length l.nums - l.col
