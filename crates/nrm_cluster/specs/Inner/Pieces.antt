-- A piece that grows by the next value: what its values weigh and are worth, its middle and its cost.
use Rattle.std.specs.Prelude.{ℕ, ◌+◌, ◌-◌, ◌*◌, ◌^◌, ◌<◌, ◌≤◌, slice_index, nat_le}
use Rattle.nrm_model.specs.declared.limits.TheConstants.{MOST_FARE}
use Rattle.nrm_cluster.specs.declared.pieces.Sum.{Sum}
use Rattle.nrm_cluster.specs.declared.pieces.Middle.{Middle}
use Rattle.nrm_cluster.specs.declared.pieces.Piece.{Piece}
use Rattle.nrm_cluster.specs.Points.{PointsValue}
use Rattle.nrm_cluster.specs.Divisions.{first_within, piece_cost, sum_from, weight_from}

-- what n values from place a on are worth: weight times value, in all
abbrev pub worth_at : PointsValue → ℕ → ℕ
worth_at p k = slice_index p.weights k * slice_index p.values k

abbrev pub worth_from : PointsValue → ℕ → ℕ → ℕ
worth_from p = sum_from (worth_at p)

abbrev pub sum_of : PointsValue → ℕ → ℕ → Sum
sum_of p a n = record { weight = weight_from p a n; worth = worth_from p a n }

-- the sums of all values of a leg are so small
pub record IsSmallSum (sum : Sum) : Type 0 where
  pub weight : sum.weight < 2 ^ 31
  pub worth : sum.worth < 2 ^ 58

-- how many values of a piece stand above its centre, and its middle
abbrev pub above_centre : PointsValue → ℕ → ℕ → ℕ
above_centre p a n = first_within (λ k. nat_le (weight_from p a n) (2 * weight_from p a (k + 1))) n 0

abbrev pub middle_of : PointsValue → ℕ → ℕ → Middle
middle_of p a n = record { place = a + above_centre p a n; above = sum_of p a (above_centre p a n) }

abbrev pub piece_of : PointsValue → ℕ → ℕ → Piece
piece_of p a n = record { start = a; count = n; whole = sum_of p a n; middle = middle_of p a n; cost = piece_cost p a n }

-- what is above a centre is part of all, and is worth no less than the centre for each; the rest is worth no more. The sums of all are small
pub record AreParts (centre : ℕ) (above whole : Sum) : Type 0 where
  pub low : centre ≤ MOST_FARE
  pub small : IsSmallSum whole
  pub weight : above.weight ≤ whole.weight
  pub worth : above.worth ≤ whole.worth
  pub dearer : centre * above.weight ≤ above.worth
  pub cheaper : whole.worth - above.worth ≤ centre * (whole.weight - above.weight)

-- what they cost at the centre, by these sums
abbrev pub cost_by : ℕ → Sum → Sum → ℕ
cost_by centre above whole =
    (above.worth - centre * above.weight) + (centre * (whole.weight - above.weight) - (whole.worth - above.worth))
