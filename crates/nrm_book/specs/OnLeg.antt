-- The seats sold of the products of a leg, read from the counts.
use Rattle.std.specs.Prelude.{ℕ, ◌==◌, ◌-◌, Bool, List, [], length, map, filter, slice_get, slice_index, unwrap_or}
use Rattle.std.specs.List.{list_any, range_with_len}

-- whether a product of these has the leg
abbrev pub uses : List (List ℕ) → ℕ → ℕ → Bool
uses legs leg product = list_any (λ other. other == leg) (unwrap_or (slice_get legs product) [])

-- the products from one on that use a leg, and each with its count
abbrev pub products_from : List (List ℕ) → ℕ → ℕ → List ℕ
products_from legs leg first = filter (uses legs leg) (range_with_len first (length legs - first))

abbrev pub sold_from : List (List ℕ) → List ℕ → ℕ → ℕ → List (ℕ × ℕ)
sold_from legs counts leg first = map (λ product. (product, slice_index counts product)) (products_from legs leg first)
