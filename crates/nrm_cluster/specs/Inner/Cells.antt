-- The cells of the table: the best division of what is left, by its cost and its first length.
use Rattle.std.specs.Prelude.{ℕ, ◌+◌, ◌-◌, ◌^◌, ◌<◌, ◌≤◌, ◌≡◌, ◌&&◌, ◌||◌, true, false, not}
use Rattle.std.specs.Prelude.{List, [], ◌∷◌, length, get_or, map, Option, Some, None, Vec, nat_lt, if◌then◌else◌}
use Rattle.std.specs.declared.alloc.Global.{Global}
use Rattle.nrm_cluster.specs.declared.table.Cell.{Cell}
use Rattle.nrm_cluster.specs.declared.chosen.Pick.{Pick}
use Rattle.nrm_cluster.specs.Points.{PointsValue}
use Rattle.nrm_cluster.specs.Inner.Table.{Costed, best_into}

abbrev pub first_of : List ℕ → ℕ
first_of [] = 0
first_of (l ∷ ls) = l

-- a cell tells of a division, if there is one
abbrev pub IsCell : Option Costed → Cell → Type 0
IsCell None cell = cell.there ≡ false
IsCell (Some d) cell = (cell.there ≡ true) × (cell.cost ≡ d.cost) × (cell.first ≡ first_of d.lengths)

-- what a cell tells fits
abbrev pub IsSmall : Cell → Type 0
IsSmall cell = cell.there ≡ true → cell.cost < 2 ^ 58

-- ---- the code's steps on cells
-- the second, if it is there and costs less than the first or the first isn't there
abbrev pub cheaper_of : Cell → Cell → Cell
cheaper_of one other = if other.there && (not one.there || nat_lt other.cost one.cost) then other else one

-- one piece more in front, of this cost and length
abbrev pub led_of : ℕ → ℕ → Cell → Cell
led_of cost first rest = if rest.there then record { there = true; cost = cost + rest.cost; first = first } else rest

-- ---- columns
-- if so many values are left: the cells of the best divisions into no piece, one piece and so on, up to the groups
pub record IsColumn (p : PointsValue) (groups left : ℕ) (column : List Cell) : Type 0 where
  pub long : length column ≡ groups + 1
  pub cells : (pieces : ℕ) (d : Cell) → pieces ≤ groups
      → IsCell (best_into p pieces (length p.values - left) left) (get_or column pieces d)

-- the columns if no value is left, one and so on
abbrev pub AreColumns : PointsValue → ℕ → List (List Cell) → Type 0
AreColumns p groups columns = (left : ℕ) (d : List Cell) → left < length columns → IsColumn p groups left (get_or columns left d)

abbrev pub columns_in : List (Vec Cell Global) → List (List Cell)
columns_in columns = map (λ (column : Vec Cell Global). column.items) columns

-- a number of pieces with the cell of the best division into so many
abbrev pub IsPick : (ℕ → Option Costed) → Option Costed → Pick → Type 0
IsPick into None pick = pick.cell.there ≡ false
IsPick into (Some d) pick = IsCell (Some d) pick.cell × (into pick.pieces ≡ Some d)
