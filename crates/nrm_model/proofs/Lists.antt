-- Lists that are worked out number by number.
use Rattle.std.proofs.Common.{ℕ, ◌≡◌, ◌∙◌, ◌+◌, List, [], ◌∷◌, ◌++◌, map, sym, arith}
use Rattle.std.specs.List.{range_with_len}
use Rattle.std.proofs.lemmas.List.FromFn.{map-range_with_len_more}

-- what stands for one number more
pub map-number-more : {X : Type 0} (f : ℕ → X) {items more : List X} {j : ℕ} {x : X} → more ≡ items ++ x ∷ [] → items ≡ map f (range_with_len 0 j) → x ≡ f j
    → more ≡ map f (range_with_len 0 (j + 1))
map-number-more f {items} {more} {j} {x} pushed made worked = pushed ∙ (λ n. made n ++ worked n ∷ []) ∙ sym (map-range_with_len_more f 0 j j (omega arith))
