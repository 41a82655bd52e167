-- The numbers so far are 0.
use Rattle.std.proofs.Common.{◌-◌, length}
use Rattle.nrm_row.specs.Numbers.{AreNoughts}
use Rattle.nrm_row.proofs.in_place.past_noughts.Given as goal

abbrev pub invariant-loop-place : goal.invariant-loop-place
invariant-loop-place l = AreNoughts l.nums l.fn.from l.place

abbrev pub decreases-loop-place : goal.decreases-loop-place
decreases-loop-place l = length l.nums - l.place
