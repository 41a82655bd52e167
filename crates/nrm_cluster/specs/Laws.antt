-- The laws of thresholds of least cost.
use Rattle.std.specs.Prelude.{ℕ, ◌+◌, ◌<◌, ◌≤◌, ◌≡◌, List, length}
use Rattle.nrm_cluster.specs.Points.{PointsValue, ValuesFall}
use Rattle.nrm_cluster.specs.Divisions.{Grouping, IsGrouping, IsChosen, by_thresholds, cost_from, cuts_of, division_cost, grouping_cost}
use Rattle.nrm_cluster.specs.Divisions.{piece_cost, piece_number}

-- the centre of a piece is a best one
abbrev pub CentresAreBest : Type 0
CentresAreBest =
    (p : PointsValue) (a n centre : ℕ) → ValuesFall p → a + n ≤ length p.values → piece_cost p a n ≤ cost_from p centre a n

-- no grouping costs less than the chosen division
abbrev pub NoGroupingCostsLess : Type 0
NoGroupingCostsLess =
    (p : PointsValue) (groups : ℕ) (lengths : List ℕ) (g : Grouping)
    → ValuesFall p → IsChosen p groups lengths → IsGrouping p groups g → division_cost p 0 lengths ≤ grouping_cost p g

-- there is one chosen division
abbrev pub OneDivisionIsChosen : Type 0
OneDivisionIsChosen =
    (p : PointsValue) (groups : ℕ) (one other : List ℕ) → IsChosen p groups one → IsChosen p groups other → one ≡ other

-- the cuts of the chosen division, used as thresholds: each value is in the group of its piece, there are no more groups than may be, and at
-- the centres of the division they cost just what it does. So they are a best grouping
pub record ThresholdsGroup : Type 0 where
  pub pieces : (p : PointsValue) (groups : ℕ) (lengths : List ℕ) → ValuesFall p → IsChosen p groups lengths
      → (k : ℕ) → k < length p.values → (by_thresholds p (cuts_of p lengths)).group k ≡ piece_number lengths k
  pub grouping : (p : PointsValue) (groups : ℕ) (lengths : List ℕ) → IsChosen p groups lengths
      → IsGrouping p groups (by_thresholds p (cuts_of p lengths))
  pub cost : (p : PointsValue) (groups : ℕ) (lengths : List ℕ) → ValuesFall p → IsChosen p groups lengths
      → grouping_cost p (by_thresholds p (cuts_of p lengths)) ≡ division_cost p 0 lengths
