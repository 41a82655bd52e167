-- The table of a leg's values.
use Rattle.std.specs.Prelude.{ℕ, ◌+◌, ◌*◌, ◌≤◌, ◌≡◌, List, length, map, All}
use Rattle.std.specs.Int.{IsInRange}
use Rattle.std.specs.List.{range_with_len}
use Rattle.nrm_model.specs.declared.limits.TheConstants.{MOST_DEMAND, MOST_FARE, MOST_HISTORIES}
use Rattle.nrm_legdp.specs.declared.limits.TheConstants.{MOST_CLASSES}
use Rattle.nrm_legdp.specs.Policies.{DemandValue, value, protection}

-- the values of no seat, one and so on, for the first 0 classes, for one and so on; and the protections of the first 0 classes, of one
-- and so on
pub record LegTableValue : Type 0 where
  pub rows : List (List ℕ)
  pub protections : List ℕ

abbrev pub row_of : DemandValue → ℕ → ℕ → List ℕ
row_of c seats j = map (value c j) (range_with_len 0 (seats + 1))

abbrev pub values_of : DemandValue → ℕ → LegTableValue
values_of c seats = record {
  rows = map (row_of c seats) (range_with_len 0 (length c.fares + 1));
  protections = map (protection c seats) (range_with_len 0 (length c.fares));
}

-- classes within the limits
pub record AreClasses (c : DemandValue) : Type 0 where
  pub histories : IsInRange 1 MOST_HISTORIES c.histories
  pub count : IsInRange 1 MOST_CLASSES (length c.fares)
  pub fares : All (IsInRange 1 MOST_FARE) c.fares
  pub demand_count : length c.demands ≡ length c.fares * c.histories
  pub demands : All (λ demand. demand ≤ MOST_DEMAND) c.demands

abbrev pub demand_of : ℕ → List ℕ → List ℕ → DemandValue
demand_of histories fares demands = record { histories = histories; fares = fares; demands = demands }
