-- What the fraction is that `dp` writes: the mean, over all seasons, of what the protections earn that it writes, and the most that there is.
use Rattle.std.specs.Prelude.{ℕ, pos, ◌≡◌, ◌≤◌, length, sum_by}
use Rattle.nrm_fraction.specs.Fraction.{◌over◌}
use Rattle.nrm_legdp.specs.Policies.{DemandValue, IsPolicy, Policy, by_protections}
use Rattle.nrm_legdp.specs.Seasons.{earned_in, seasons}
use Rattle.nrm_legdp.specs.Table.{AreClasses}
use Rattle.nrm_findings.specs.LegValues.{mean_value}

-- what a policy takes in over all seasons, of so many seats
abbrev pub over_seasons : DemandValue → Policy → ℕ → ℕ
over_seasons c sells seats = sum_by (earned_in c sells (length c.fares) seats) (seasons c (length c.fares))

pub record IsBestMean (c : DemandValue) (seats : ℕ) : Type 0 where
  pub mean : mean_value c seats ≡ pos (over_seasons c (by_protections c seats) seats) over length (seasons c (length c.fares))
  pub best : (sells : Policy) → IsPolicy sells → over_seasons c sells seats ≤ over_seasons c (by_protections c seats) seats

abbrev pub ValuesAreMeans : Type 0
ValuesAreMeans = (c : DemandValue) (seats : ℕ) → AreClasses c → IsBestMean c seats
