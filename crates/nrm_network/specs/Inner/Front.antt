-- A row of demand that is read off the text in one pass.
use Rattle.std.specs.Prelude.{ℕ, ◌≡◌, ◌≤◌, Bool, true, List, [], ◌∷◌, ◌++◌, map}
use Rattle.std.specs.List.{list_all}
use Rattle.nrm_text.specs.Numbers.{is_whole, value_of}
use Rattle.nrm_model.specs.declared.limits.TheConstants.{MOST_DEMAND}
use Rattle.nrm_network.specs.Rows.{Row, demand_kind, field, further_numbers}
use Rattle.nrm_network.specs.Checks.{is_within}
use Rattle.nrm_network.specs.Inner.Entries.{Counted, HasShape}
use Rattle.nrm_network.specs.Inner.Fields.{are_whole, bounded}
use Rattle.nrm_network.specs.Inner.Lines.{ends_line, line_fields, line_of}
use Rattle.nrm_network.specs.declared.entry.Counts.{Counts}

-- a whole number of three digits at most, and its value
pub record IsCount (text : List ℕ) (number : ℕ) : Type 0 where
  pub whole : is_whole text ≡ true
  pub value : value_of text ≡ number
  pub few : number ≤ 999

-- the bytes begin with such a number, and these are behind it
pub record NumberAtFront (bytes : List ℕ) (count : ℕ) (behind : List ℕ) : Type 0 where
  pub text : List ℕ
  pub is : bytes ≡ text ++ behind
  pub number : IsCount text count

-- a line has no byte more
abbrev pub is_over : List ℕ → Bool
is_over [] = true
is_over (c ∷ rest) = ends_line c

-- the fields write these numbers of seats
pub record WritesSeats (fields : Row) (seats : List ℕ) : Type 0 where
  pub whole : are_whole (bounded 0 MOST_DEMAND fields) ≡ true
  pub within : list_all is_within (bounded 0 MOST_DEMAND fields) ≡ true
  pub are : map value_of fields ≡ seats

-- the fields of the first line of the bytes write these numbers, and these are behind the line
pub record SeatsAtFront (bytes seats behind : List ℕ) : Type 0 where
  pub writes : WritesSeats (line_fields (line_of bytes)) seats
  pub line : bytes ≡ line_of bytes ++ behind

-- the first line of the bytes is a row of demand of the product of a name in the history of a number, which writes these seats, and these
-- are behind the line
pub record DemandAtFront (counts : Counts) (name bytes numbers : List ℕ) (number : ℕ) (behind : List ℕ) : Type 0 where
  pub shape : (before : List Row) → Counted counts before → HasShape before (line_fields (line_of bytes)) demand_kind
  pub product : name ≡ field (line_fields (line_of bytes)) 1
  pub history : number ≡ value_of (field (line_fields (line_of bytes)) 2)
  pub seats : numbers ≡ further_numbers (line_fields (line_of bytes))
  pub line : bytes ≡ line_of bytes ++ behind
