use Rattle.std.proofs.Common.{◌≡◌, ◌-◌, ◌≤◌, drop}
use Rattle.nrm_model.specs.Limits.{falls}
use Rattle.nrm_network.proofs.draft.falls.Given as goal

abbrev pub invariant-loop-i : goal.invariant-loop-i
invariant-loop-i l = (1 ≤ l.i) × (falls l.cuts ≡ falls (drop (l.i - 1) l.cuts))
