use Rattle.std.proofs.Common.{◌≡◌, ◌-◌, slice_index}
use Rattle.nrm_legdp.specs.Policies.{last_passing, worth_more}
use Rattle.nrm_legdp.proofs.table.threshold.Given as goal

abbrev pub invariant-loop-y : goal.invariant-loop-y
invariant-loop-y l = l.last ≡ last_passing (worth_more l.pay (slice_index l.row)) (l.y - 1)
