use Rattle.std.proofs.Common.{◌≡◌}
use Rattle.nrm_number.specs.Gcd.{gcd as gcd_of}
use Rattle.nrm_number.proofs.euclid.gcd.Given as goal

abbrev pub invariant-loop-x : goal.invariant-loop-x
invariant-loop-x l = gcd_of l.x l.y ≡ gcd_of l.a l.b

abbrev pub decreases-loop-x : goal.decreases-loop-x
decreases-loop-x l = l.y
