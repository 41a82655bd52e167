-- Lines that ask nothing of the hub itself: those of more than three words.
use Rattle.std.proofs.Common.{ℕ, ◌≡◌, ◌≤◌, List, [], ◌∷◌, length, None, refl, arith}
use Rattle.nrm_hub.specs.Asked.{asked_of_words}

pub too-many-words : (first second third : List ℕ) (more : List (List ℕ)) → 1 ≤ length more
    → asked_of_words (first ∷ second ∷ third ∷ more) ≡ None
too-many-words first second third [] some = absurd (omega arith)
too-many-words first second third (fourth ∷ more) some = refl
