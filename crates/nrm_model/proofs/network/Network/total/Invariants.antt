use Rattle.std.proofs.Common.{◌≡◌, ◌≤◌, ◌*◌, sum_by}
use Rattle.std.specs.List.{range_with_len}
use Rattle.nrm_model.specs.Demand.{demand_to_come}
use Rattle.nrm_model.proofs.network.Network.total.Given as goal

abbrev pub invariant-loop-history : goal.invariant-loop-history
invariant-loop-history l = record {
  seats : l.total ≡ sum_by (λ h. demand_to_come l.self l.product h l.period) (range_with_len 0 l.history);
  within : l.total ≤ 999 * l.history;
}
