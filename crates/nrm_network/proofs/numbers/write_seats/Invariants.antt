use Rattle.std.proofs.Common.{◌≡◌, ◌≤◌, ◌+◌, ◌*◌, ◌++◌, drop, map, decimal}
use Rattle.nrm_model.specs.Demand.{demand_row}
use Rattle.nrm_network.specs.Inner.RowText.{after_commas}
use Rattle.nrm_network.proofs.numbers.write_seats.Given as goal

-- the later periods are written
abbrev pub invariant-loop-t : goal.invariant-loop-t
invariant-loop-t l = record {
  within : l.t ≤ l.net.periods;
  few : l.end + 4 * l.t ≤ l.start + 4 * l.net.periods;
  before : l.start ≤ l.end;
  written : drop l.start l.row ≡ after_commas (map decimal (drop l.t (demand_row l.net l.j l.h))) ++ drop l.end l.fn.row;
}
