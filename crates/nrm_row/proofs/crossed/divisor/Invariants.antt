-- The divisor is that of the numbers from i on.
use Rattle.std.proofs.Common.{◌≡◌, ◌≤◌, length, drop}
use Rattle.nrm_fraction.specs.Large.{gcd_all}
use Rattle.nrm_row.specs.Inner.Crossed.{crossed}
use Rattle.nrm_row.proofs.crossed.divisor.Given as goal

abbrev pub invariant-loop-i : goal.invariant-loop-i
invariant-loop-i l = (l.i ≤ length l.us) × (l.common ≡ gcd_all l.d (crossed l.a l.e (drop l.i l.us) (drop l.i l.xs)))

abbrev pub decreases-loop-i : goal.decreases-loop-i
decreases-loop-i l = l.i
