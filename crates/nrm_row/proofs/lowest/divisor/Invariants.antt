-- The divisor is that of the numbers from i on.
use Rattle.std.proofs.Common.{◌≡◌, ◌≤◌, length, drop, unsigned_abs}
use Rattle.nrm_fraction.specs.Large.{gcd_all}
use Rattle.nrm_row.proofs.lowest.divisor.Given as goal

abbrev pub invariant-loop-i : goal.invariant-loop-i
invariant-loop-i l = (l.i ≤ length l.nums) × (l.common ≡ gcd_all (unsigned_abs l.fn.den) (drop l.i l.nums))

abbrev pub decreases-loop-i : goal.decreases-loop-i
decreases-loop-i l = l.i
