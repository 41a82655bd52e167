-- The numbers so far are put, and none of them is too large.
use Rattle.std.proofs.Common.{unsigned_abs}
use Rattle.nrm_row.specs.Inner.Crossed.{crossed, shrunk}
use Rattle.nrm_row.proofs.Combining.{IsPutTo}
use Rattle.nrm_row.proofs.crossed.put_crossed.Given as goal

abbrev pub invariant-loop-i : goal.invariant-loop-i
invariant-loop-i l = IsPutTo (shrunk (unsigned_abs l.fn.g) (crossed l.fn.a l.fn.e l.us l.initial.xs)) l.initial.xs l.xs l.i
