-- Groupings of values, divisions of a falling list of values into pieces, and the division that is chosen.
use Rattle.std.specs.Prelude.{ℕ, zero, suc, ◌+◌, ◌-◌, ◌*◌, ◌<◌, ◌≤◌, ◌≡◌, ◌⊎◌, Bool}
use Rattle.std.specs.Prelude.{true, false, List, [], ◌∷◌, length, sum, All, slice_index, nat_le, nat_lt, count_by, if◌then◌else◌}
use Rattle.nrm_cluster.specs.Points.{PointsValue}

abbrev pub distance : ℕ → ℕ → ℕ
distance x y = (x - y) + (y - x)

-- the sum of f at n places from place a on
abbrev pub sum_from : (ℕ → ℕ) → ℕ → ℕ → ℕ
sum_from f a zero = 0
sum_from f a (suc n) = sum_from f a n + f (a + n)

-- the weight of n values from place a on, and what they cost at a centre: weight times distance, in all
abbrev pub weight_from : PointsValue → ℕ → ℕ → ℕ
weight_from p = sum_from (slice_index p.weights)

abbrev pub cost_at : PointsValue → ℕ → ℕ → ℕ
cost_at p centre k = slice_index p.weights k * distance (slice_index p.values k) centre

abbrev pub cost_from : PointsValue → ℕ → ℕ → ℕ → ℕ
cost_from p centre = sum_from (cost_at p centre)

-- ---- groupings
-- a group for each place, and a centre for each group: any whole number. The values of a group need not be neighbours
pub record Grouping : Type 0 where
  pub group : ℕ → ℕ
  pub centre : ℕ → ℕ

abbrev pub IsGrouping : PointsValue → ℕ → Grouping → Type 0
IsGrouping p groups g = (k : ℕ) → k < length p.values → g.group k < groups

abbrev pub grouping_cost : PointsValue → Grouping → ℕ
grouping_cost p g = sum_from (λ k. cost_at p (g.centre (g.group k)) k) 0 (length p.values)

-- ---- divisions
-- the first number from k on that passes, or where the search ends after so many more
abbrev pub first_within : (ℕ → Bool) → ℕ → ℕ → ℕ
first_within test zero k = k
first_within test (suc more) k = elim (test k) [ true ↦ k | false ↦ first_within test more (k + 1) ]

-- the centre of a piece of n values from place a on: its first value at which twice the weight up to and with it is at least the
-- whole weight
abbrev pub centre_of : PointsValue → ℕ → ℕ → ℕ
centre_of p a n = slice_index p.values (a + first_within (λ k. nat_le (weight_from p a n) (2 * weight_from p a (k + 1))) n 0)

abbrev pub piece_cost : PointsValue → ℕ → ℕ → ℕ
piece_cost p a n = cost_from p (centre_of p a n) a n

-- lengths of pieces that cover n values, none empty
pub record IsDivision (n : ℕ) (lengths : List ℕ) : Type 0 where
  pub some : All (λ length. 0 < length) lengths
  pub whole : sum lengths ≡ n

-- what pieces of these lengths from place a on cost
abbrev pub division_cost : PointsValue → ℕ → List ℕ → ℕ
division_cost p a [] = 0
division_cost p a (l ∷ ls) = piece_cost p a l + division_cost p (a + l) ls

-- ---- the chosen division
-- one list of numbers comes before another in lexicographic order, or is the same
abbrev pub IsNoLater : List ℕ → List ℕ → Type 0
IsNoLater [] ys = Unit {0}
IsNoLater (x ∷ xs) [] = ⊥
IsNoLater (x ∷ xs) (y ∷ ys) = (x < y) ⊎ ((x ≡ y) × IsNoLater xs ys)

-- it costs less; or as much, with fewer pieces; or as much with as many pieces, and its lengths come no later
abbrev pub IsNoWorse : PointsValue → List ℕ → List ℕ → Type 0
IsNoWorse p ls other =
    (division_cost p 0 ls < division_cost p 0 other)
    ⊎ ((division_cost p 0 ls ≡ division_cost p 0 other)
    × ((length ls < length other) ⊎ ((length ls ≡ length other) × IsNoLater ls other)))

-- a division into at most so many pieces that is no worse than any other
pub record IsChosen (p : PointsValue) (groups : ℕ) (lengths : List ℕ) : Type 0 where
  pub division : IsDivision (length p.values) lengths
  pub few : length lengths ≤ groups
  pub best : (other : List ℕ) → IsDivision (length p.values) other → length other ≤ groups → IsNoWorse p lengths other

-- the last values of all pieces but the last, and the centres of all
abbrev pub cuts_from : PointsValue → ℕ → List ℕ → List ℕ
cuts_from p a [] = []
cuts_from p a (l ∷ []) = []
cuts_from p a (l ∷ m ∷ ls) = slice_index p.values (a + l - 1) ∷ cuts_from p (a + l) (m ∷ ls)

abbrev pub centres_from : PointsValue → ℕ → List ℕ → List ℕ
centres_from p a [] = []
centres_from p a (l ∷ ls) = centre_of p a l ∷ centres_from p (a + l) ls

-- thresholds, centres and a cost
pub record CutsValue : Type 0 where
  pub cost : ℕ
  pub cuts : List ℕ
  pub centres : List ℕ

-- those of a division
abbrev pub cuts_of : PointsValue → List ℕ → CutsValue
cuts_of p lengths = record { cost = division_cost p 0 lengths; cuts = cuts_from p 0 lengths; centres = centres_from p 0 lengths }

-- those of the chosen division
abbrev pub AreCuts : PointsValue → ℕ → CutsValue → Type 0
AreCuts p groups cuts = (lengths : List ℕ) × IsChosen p groups lengths × (cuts ≡ cuts_of p lengths)

-- ---- the cuts as thresholds
-- the number of the piece in which a place stands, from 0
abbrev pub piece_number : List ℕ → ℕ → ℕ
piece_number [] k = 0
piece_number (l ∷ ls) k = if nat_lt k l then 0 else suc (piece_number ls (k - l))

-- the grouping by thresholds: the group of a value is how many cuts are above it, so that a value that equals a cut stays above it
abbrev pub by_thresholds : PointsValue → CutsValue → Grouping
by_thresholds p c = record {
  group = λ k. count_by (λ cut. nat_lt (slice_index p.values k) cut) c.cuts;
  centre = slice_index c.centres;
}
