-- The histories so far have the product's demand in them, and the others stay.
use Rattle.std.proofs.Common.{◌≡◌, ◌≤◌, ◌+◌, ◌*◌, ◌++◌, drop, get_or, map, sum_by}
use Rattle.std.specs.List.{range_with_len}
use Rattle.nrm_model.specs.Demand.{demand_to_come}
use Rattle.nrm_emsr.proofs.sums.add_product.Given as goal

abbrev pub invariant-loop-history : goal.invariant-loop-history
invariant-loop-history l = record {
  total : l.total ≡ sum_by (λ h. demand_to_come l.net l.product h l.period) (range_with_len 0 l.history);
  within : l.total ≤ 999 * l.history;
  demands : l.demands.items
      ≡ map (λ h. get_or l.initial.demands.items h 0 + demand_to_come l.net l.product h l.period) (range_with_len 0 l.history) ++ drop l.history l.initial.demands.items;
}
