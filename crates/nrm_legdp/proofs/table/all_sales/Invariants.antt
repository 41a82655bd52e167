use Rattle.std.proofs.Common.{◌≡◌, ◌*◌, ◌^◌, ◌≤◌, take, slice_index}
use Rattle.nrm_legdp.specs.Inner.Filling.{worth_above}
use Rattle.nrm_legdp.proofs.table.all_sales.Given as goal

abbrev pub invariant-loop-demand : goal.invariant-loop-demand
invariant-loop-demand l = record { sum : l.total ≡ worth_above l.pay (slice_index l.row) l.y (take l.demand-index l.demands) l.x; small : l.total ≤ l.demand-index * 2 ^ 97 }
