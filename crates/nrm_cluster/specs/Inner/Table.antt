-- The chosen division, from a table over how many values are left and numbers of pieces.
use Rattle.std.specs.Prelude.{ℕ, zero, suc, ◌+◌, ◌-◌, List, [], ◌∷◌, length, Option, Some, None, nat_lt, if◌then◌else◌}
use Rattle.std.specs.Option.{option_map}
use Rattle.nrm_cluster.specs.Points.{PointsValue}
use Rattle.nrm_cluster.specs.Divisions.{piece_cost}

-- a division with its cost
pub record Costed : Type 0 where
  pub cost : ℕ
  pub lengths : List ℕ

-- the second, if it costs less than the first
abbrev pub cheaper : Option Costed → Option Costed → Option Costed
cheaper None other = other
cheaper (Some a) None = Some a
cheaper (Some a) (Some b) = if nat_lt b.cost a.cost then Some b else Some a

-- the first of the cheapest among f 1 to f n
abbrev pub cheapest : (ℕ → Option Costed) → ℕ → Option Costed
cheapest f zero = None
cheapest f (suc n) = cheaper (cheapest f n) (f (suc n))

-- one piece more in front of a division
abbrev pub led_by : PointsValue → ℕ → ℕ → Costed → Costed
led_by p a l d = record { cost = piece_cost p a l + d.cost; lengths = l ∷ d.lengths }

-- the best division of n values from a on into so many pieces
abbrev pub best_into : PointsValue → ℕ → ℕ → ℕ → Option Costed
best_into p zero a zero = Some (record { cost = 0; lengths = [] })
best_into p zero a (suc n) = None
best_into p (suc pieces) a n = cheapest (λ l. option_map (led_by p a l) (best_into p pieces (a + l) (n - l))) n

-- of all values, into so many pieces, and into at most so many
abbrev pub into_pieces : PointsValue → ℕ → Option Costed
into_pieces p pieces = best_into p pieces 0 (length p.values)

abbrev pub best_division : PointsValue → ℕ → Option Costed
best_division p groups = cheapest (into_pieces p) groups
