use Rattle.std.proofs.Common.{ℕ, ◌≡◌, ◌-◌, ◌<◌, ◌≤◌, ◌==◌, length, get_or, false}
use Rattle.nrm_stream.proofs.cut.first_at.Given as goal

-- no byte so far is such a byte
abbrev pub invariant-loop-at : goal.invariant-loop-at
invariant-loop-at l = record {
  within : l.at ≤ length l.bytes;
  none : (k : ℕ) → k < l.at → (get_or l.bytes k 0 == l.wanted) ≡ false;
}

abbrev pub decreases-loop-at : goal.decreases-loop-at
decreases-loop-at l = length l.bytes - l.at
