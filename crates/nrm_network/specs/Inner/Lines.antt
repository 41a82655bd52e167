-- The lines of a text without a quote, and the fields of a line.
use Rattle.std.specs.Prelude.{ℕ, ◌≡◌, ◌≢◌, ◌+◌, ◌-◌, ◌<◌, ◌≤◌, ◌==◌, ◌||◌, Bool, List, [], ◌∷◌, ◌++◌, length, take, drop, slice_index, fold, if◌then◌else◌}
use Rattle.std.specs.List.{list_any}
use Rattle.nrm_network.specs.Rows.{Row, field}
use Rattle.nrm_network.specs.declared.line.TheConstants.{MOST_FIELDS, PLACES}

abbrev pub has_quote : List ℕ → Bool
has_quote text = list_any (λ c. c == 34) text

-- a carriage return or a line feed
abbrev pub ends_line : ℕ → Bool
ends_line c = (c == 13) || (c == 10)

-- the bytes before the first that ends a line
abbrev pub line_of : List ℕ → List ℕ
line_of [] = []
line_of (c ∷ rest) = if ends_line c then [] else c ∷ line_of rest

-- the fields before a place in a line, and the bytes of the one that it is in
abbrev pub Cutting : Type 0
Cutting = Row × List ℕ

-- a comma ends a field, and each other byte belongs to it
abbrev pub after_byte : Cutting → ℕ → Cutting
after_byte (fields, begun) c = if c == 44 then (fields ++ begun ∷ [], []) else (fields, begun ++ c ∷ [])

abbrev pub cut_at_commas : List ℕ → Cutting
cut_at_commas text = fold after_byte ([], []) text

-- the fields of a line
abbrev pub line_fields : List ℕ → Row
line_fields text = (cut_at_commas text).0 ++ (cut_at_commas text).1 ∷ []

-- a field stands in the text from its start on, and there is one byte between it and the start of the next, which is no greater than this
pub record StandsAt (text : List ℕ) (most : ℕ) (fields : Row) (starts : List ℕ) (k : ℕ) : Type 0 where
  pub before : slice_index starts k < slice_index starts (k + 1)
  pub within : slice_index starts (k + 1) ≤ most
  pub is : field fields k ≡ take (slice_index starts (k + 1) - 1 - slice_index starts k) (drop (slice_index starts k) text)

-- the first of the fields do
abbrev pub Held : List ℕ → ℕ → Row → List ℕ → Type 0
Held text most fields starts = (k : ℕ) → k < length fields → k < MOST_FIELDS → StandsAt text most fields starts k

-- a start was written at its place, if it is one of those that are kept, and the others are as they were
pub record Marks (before after : List ℕ) (at start : ℕ) : Type 0 where
  pub same : at < PLACES → slice_index after at ≡ start
  pub others : (k : ℕ) → k ≢ at → slice_index after k ≡ slice_index before k
  pub places : length after ≡ length before
