-- The least of some numbers and of one more.
use Rattle.std.proofs.Common.{ℕ, ◌≡◌, ◌∙◌, ◌+◌, ◌<◌, List, [], ◌∷◌, ◌++◌, get_or, length, map, min, refl, ap, arith, take}
use Rattle.std.proofs.lemmas.List.{take_more, map-append}
use Rattle.nrm_model.specs.Network.{least_of}

least_of-push : (m y : ℕ) (xs : List ℕ) → least_of (m ∷ (xs ++ y ∷ [])) ≡ min (least_of (m ∷ xs)) y
least_of-push m y [] = refl
least_of-push m y (x ∷ xs) = omega (arith, least_of-push x y xs)

pub least_of-more : (m : ℕ) (f : ℕ → ℕ) (xs : List ℕ) (k : ℕ) → k < length xs → least_of (m ∷ map f (take (k + 1) xs)) ≡ min (least_of (m ∷ map f (take k xs))) (f (get_or xs k 0))
least_of-more m f xs k short =
    ap (λ ys. least_of (m ∷ map f ys)) (take_more xs k 0 short) ∙ ap (λ ys. least_of (m ∷ ys)) (map-append f (take k xs) (get_or xs k 0 ∷ []))
    ∙ least_of-push m (f (get_or xs k 0)) (map f (take k xs))
