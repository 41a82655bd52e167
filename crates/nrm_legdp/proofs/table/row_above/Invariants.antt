use Rattle.std.proofs.Common.{◌≡◌, map, slice_index}
use Rattle.std.specs.List.{range_with_len}
use Rattle.nrm_legdp.specs.Inner.Filling.{worth_above}
use Rattle.nrm_legdp.proofs.table.row_above.Given as goal

abbrev pub invariant-loop-x : goal.invariant-loop-x
invariant-loop-x l = l.next.items ≡ map (worth_above l.pay (slice_index l.row) l.y l.demands) (range_with_len 0 l.x)
