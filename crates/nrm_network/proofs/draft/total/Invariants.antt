use Rattle.std.proofs.Common.{◌≡◌, ◌*◌, ◌≤◌, sum, take}
use Rattle.nrm_network.proofs.draft.total.Given as goal

abbrev pub invariant-loop-seats : goal.invariant-loop-seats
invariant-loop-seats l = (l.total ≡ sum (take l.seats-index l.seats)) × (l.total ≤ 65535 * l.seats-index)
