-- Lines of accounts: words and counts, each behind a space, and the end of the line.
use Rattle.std.specs.Prelude.{ℕ, List, [], ◌∷◌, ◌++◌, decimal}
use Rattle.nrm_text.specs.Words.{spaced}

-- a word and a number
abbrev pub counted : List ℕ → ℕ → List ℕ
counted word n = spaced word ++ spaced (decimal n)

abbrev pub ended : List ℕ → List ℕ
ended words = words ++ 10 ∷ []
