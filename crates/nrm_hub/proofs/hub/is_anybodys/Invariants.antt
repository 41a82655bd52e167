-- No client before this place is the desk.
use Rattle.std.proofs.Common.{ℕ, ◌<◌}
use Rattle.nrm_hub.specs.Inner.Seats.{IsDeskOf}
use Rattle.nrm_hub.proofs.hub.is_anybodys.Given as goal

abbrev pub invariant-loop-place : goal.invariant-loop-place
invariant-loop-place l = (k : ℕ) → k < l.place → IsDeskOf l.clients k l.desk → ⊥
