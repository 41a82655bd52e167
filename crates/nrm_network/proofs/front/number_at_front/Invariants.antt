use Rattle.std.proofs.Common.{length}
use Rattle.nrm_network.specs.Inner.Front.{NumberAtFront}
use Rattle.nrm_network.proofs.front.number_at_front.Given as goal

-- the digits so far are a number
abbrev pub invariant-loop-number : goal.invariant-loop-number
invariant-loop-number l = NumberAtFront l.bytes l.number l.left

abbrev pub decreases-loop-number : goal.decreases-loop-number
decreases-loop-number l = length l.left
