-- Sums of demands.
use Rattle.std.proofs.Common.{ℕ, ◌≡◌, ◌+◌, ◌-◌, ◌≤◌, List, length, take, drop, sum, sum_by, arith}
use Rattle.std.specs.List.{range_with_len}
use Rattle.std.proofs.lemmas.List.{map-id, take_rest}
use Rattle.std.proofs.lemmas.List.FromFn.{sum_by-map-range_with_len_more}
use Rattle.std.proofs.lemmas.List.Sums.{sum_by-take-drop}

-- the end of a row, as a slice of it, sums to no more than the whole
pub sum-end : (row : List ℕ) (from : ℕ) → sum (take (length row - from) (drop from row)) ≤ sum row
sum-end row from = rw take_rest (omega (arith, sum_by-take-drop (λ x. x) row from))

-- one more number to sum over
pub sum-range-more : (f : ℕ → ℕ) (n : ℕ) → sum_by f (range_with_len 0 (n + 1)) ≡ sum_by f (range_with_len 0 n) + f n
sum-range-more f n =
    let more = sum_by-map-range_with_len_more f (λ (x : ℕ). x) 0 n n (omega arith) in
    rw (map-id (range_with_len 0 (n + 1)), map-id (range_with_len 0 n)) at more
