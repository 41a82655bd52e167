-- The table of a leg's values: its rows, and its protections behind the first.
use Rattle.std.proofs.Common.{ℕ, zero, suc, ◌≡◌, ◌∙◌, ◌+◌, ◌-◌, ◌≤◌, List, [], ap, arith, drop, get_or, length, map, refl}
use Rattle.std.specs.Prelude.{slice_index}
use Rattle.std.specs.List.{range_with_len}
use Rattle.std.proofs.lemmas.List.FromFn.{get_or-map-range_with_len, length-map-range_with_len}
use Rattle.nrm_legdp.specs.Policies.{DemandValue, protection, value}
use Rattle.nrm_legdp.specs.Table.{LegTableValue, row_of, values_of}
use Rattle.nrm_findings.specs.LegValues.{protections}

-- without the first of the values from 0 on, they are those from 1 on
behind-map : (f : ℕ → ℕ) (n : ℕ) → drop 1 (map f (range_with_len 0 n)) ≡ map f (range_with_len 1 (n - 1))
behind-map f zero = refl
behind-map f (suc n) = let one : n ≡ suc n - 1 = omega arith in ap (λ (k : ℕ). map f (range_with_len 1 k)) one

module _ (c : DemandValue) (seats : ℕ) (table : LegTableValue) (is : table ≡ values_of c seats) where
  pub rows-count : length table.rows ≡ length c.fares + 1
  rows-count = ap (λ (t : LegTableValue). length t.rows) is ∙ length-map-range_with_len (row_of c seats) 0 (length c.fares + 1)

  pub row-at : (j : ℕ) → j ≤ length c.fares → get_or table.rows j [] ≡ row_of c seats j
  row-at j within = ap (λ (t : LegTableValue). get_or t.rows j []) is ∙ get_or-map-range_with_len (row_of c seats) 0 (length c.fares + 1) j j [] (omega (arith, within)) (omega arith)

  pub seats-count : (j : ℕ) → j ≤ length c.fares → length (get_or table.rows j []) ≡ seats + 1
  seats-count j within = ap length (row-at j within) ∙ length-map-range_with_len (value c j) 0 (seats + 1)

  pub value-at : (j : ℕ) → j ≤ length c.fares → slice_index (get_or table.rows j []) seats ≡ value c j seats
  value-at j within = ap (λ (row : List ℕ). slice_index row seats) (row-at j within) ∙ get_or-map-range_with_len (value c j) 0 (seats + 1) seats seats 0 (omega arith) (omega arith)

  pub levels-count : length table.protections ≡ length c.fares
  levels-count = ap (λ (t : LegTableValue). length t.protections) is ∙ length-map-range_with_len (protection c seats) 0 (length c.fares)

  pub levels-behind : drop 1 table.protections ≡ protections c seats
  levels-behind = ap (λ (t : LegTableValue). drop 1 t.protections) is ∙ behind-map (protection c seats) (length c.fares)
