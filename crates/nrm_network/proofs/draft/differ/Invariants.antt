use Rattle.std.proofs.Common.{◌≡◌, bytes_eq, drop}
use Rattle.nrm_model.specs.Limits.{differ}
use Rattle.nrm_network.proofs.draft.differ.Given as goal

abbrev pub invariant-loop-i : goal.invariant-loop-i
invariant-loop-i l = differ bytes_eq l.names ≡ differ bytes_eq (drop l.i l.names)
