-- Rows of made things.
use Rattle.std.proofs.Common.{ℕ, ◌≡◌, ◌+◌, ◌<◌, List, [], ◌∷◌, ◌++◌, map, arith, All}
use Rattle.std.specs.List.{range_with_len}
use Rattle.std.proofs.lemmas.List.FromFn.{get_or-map-range_with_len, length-map-range_with_len, map-range_with_len_more}

-- one more
pub row-more : {X : Type 0} (f : ℕ → X) (n : ℕ) (before after : List X) (x : X) → before ≡ map f (range_with_len 0 n) → x ≡ f n
    → after ≡ before ++ x ∷ [] → after ≡ map f (range_with_len 0 (n + 1))
row-more f n before after x so_far one joined =
    let more = map-range_with_len_more f 0 n n (omega arith) in
    cc

-- what each of them is, by its number
pub each-made : {X : Type 0} (f : ℕ → X) (P : X → Type 0) (n : ℕ) → ((i : ℕ) → i < n → P (f i)) → All P (map f (range_with_len 0 n))
each-made f P n of_one = λ k d short.
    let few : k < n = rw length-map-range_with_len at short in
    rw (get_or-map-range_with_len f 0 n k k d few (omega arith)) (of_one k few)
