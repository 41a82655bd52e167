-- The text of rows as they are written.
use Rattle.std.specs.Prelude.{ℕ, ◌==◌, List, [], ◌∷◌, ◌++◌, map, sum, flat_map, decimal, codes, ◌+◌, if◌then◌else◌}
use Rattle.std.specs.List.{join_with_byte}
use Rattle.nrm_model.specs.Network.{NetworkValue, product_of}
use Rattle.nrm_model.specs.Demand.{demand_row}
use Rattle.nrm_network.specs.Rows.{Row}

-- fields that follow another: a comma before each
abbrev pub after_commas : List (List ℕ) → List ℕ
after_commas fields = flat_map (λ field. 44 ∷ field) fields

-- a row: its fields with commas between them, and the end of the line
abbrev pub row_text : Row → List ℕ
row_text fields = join_with_byte 44 fields ++ 10 ∷ []

-- the row of a product in a history, which counts from 0
abbrev pub history_fields : NetworkValue → ℕ → ℕ → Row
history_fields net product history =
    codes "demand" ∷ (product_of net product).name ∷ decimal (history + 1) ∷ map decimal (demand_row net product history)

-- its text, and none where the demand is 0 in every period
abbrev pub history_text : NetworkValue → ℕ → ℕ → List ℕ
history_text net product history = if sum (demand_row net product history) == 0 then [] else row_text (history_fields net product history)
