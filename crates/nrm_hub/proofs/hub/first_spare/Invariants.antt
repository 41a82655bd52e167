-- No desk before this one may be forgotten.
use Rattle.std.proofs.Common.{ℕ, ◌<◌}
use Rattle.nrm_hub.specs.Spare.{IsForgettable}
use Rattle.nrm_hub.proofs.hub.first_spare.Given as goal

abbrev pub invariant-loop-desk : goal.invariant-loop-desk
invariant-loop-desk l = (k : ℕ) → k < l.desk → IsForgettable l.register l.clients k → ⊥
