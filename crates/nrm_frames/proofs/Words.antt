-- Lines of too many words.
use Rattle.std.proofs.Common.{ℕ, ◌≡◌, ◌≤◌, List, [], ◌∷◌, length, None, refl, arith}
use Rattle.nrm_frames.specs.Headers.{header_of_words}

pub too-many-words : (first second third fourth : List ℕ) (more : List (List ℕ)) → 1 ≤ length more
    → header_of_words (first ∷ second ∷ third ∷ fourth ∷ more) ≡ None
too-many-words first second third fourth [] some = absurd (omega arith)
too-many-words first second third fourth (fifth ∷ more) some = refl
