-- The numbers of a demand row, written from the last to the first: one more before those that are written.
use Rattle.std.proofs.Common.{ℕ, ◌≡◌, ◌∙◌, ◌+◌, ◌-◌, ◌<◌, ◌≤◌, List, [], ◌∷◌, length, drop, ap, arith}
use Rattle.std.specs.Prelude.{decimal, slice_set}
use Rattle.std.proofs.lemmas.Fmt.{length-decimal-le}
use Rattle.std.proofs.lemmas.List.{drop-set, drop_all}

-- a number of three digits at most
pub three-digits : (n : ℕ) → n < 1000 → length (decimal n) ≤ 3
three-digits n few = length-decimal-le 3 n (omega arith) few (omega arith)

-- a comma before what is written
pub comma-before : (row written : List ℕ) (start : ℕ) → 0 < start → start ≤ length row → drop start row ≡ written
    → drop (start - 1) (slice_set row (start - 1) 44) ≡ 44 ∷ written
comma-before row written start some within is =
    let next : (start - 1) + 1 ≡ start = omega arith in
    drop-set row (start - 1) 44 (omega arith) ∙ ap (λ (i : ℕ). 44 ∷ drop i row) next ∙ ap (λ (xs : List ℕ). 44 ∷ xs) is

-- the end of the line in the last place
pub end-of-line : (row : List ℕ) (last : ℕ) → length row ≡ last + 1 → drop last (slice_set row last 10) ≡ 10 ∷ []
end-of-line row last long = drop-set row last 10 (omega arith) ∙ ap (λ (xs : List ℕ). 10 ∷ xs) (drop_all (last + 1) row (omega arith))
