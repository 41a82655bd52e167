use Rattle.std.proofs.Common.{◌≡◌, ◌≤◌, nat_lt, take}
use Rattle.std.specs.List.{count_by}
use Rattle.nrm_account.proofs.protected.count_above.Given as goal

-- those so far are counted
abbrev pub invariant-loop-demand : goal.invariant-loop-demand
invariant-loop-demand l = record {
  count : l.count ≡ count_by (λ demand. nat_lt l.seats demand) (take l.demand-index l.demands);
  within : l.count ≤ l.demand-index;
}
