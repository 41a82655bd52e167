use Rattle.std.proofs.Common.{◌≡◌, ◌<◌, Global, List, String, [], ◌∷◌, None, arith, length, map, refl, rules}
use Rattle.std.specs.Prelude.{string_bytes}
use Rattle.nrm_cli.specs.Jobs.{job_of}
use Rattle.nrm_cli.proofs.words.asked_in.Goals as goal
use Rattle.nrm_cli.proofs.words.asked_in.Goals.{in_default-via-then-words-lt2, in_default-via-else-words-lt2+else-words-lt3+else-words-lt4+else-words-lt5}

-- fewer than two words ask for nothing, and so do more than four
few-words : (words : List (String Global)) → length words < 2 → None ≡ job_of (map string_bytes words)
few-words [] few = refl
few-words (verb ∷ []) few = refl
few-words (verb ∷ second ∷ more) few = absurd (omega (arith, few))

many-words : (words : List (String Global)) → 4 < length words → None ≡ job_of (map string_bytes words)
many-words [] many = absurd (omega (arith, many))
many-words (verb ∷ []) many = absurd (omega (arith, many))
many-words (verb ∷ second ∷ []) many = absurd (omega (arith, many))
many-words (verb ∷ second ∷ third ∷ []) many = absurd (omega (arith, many))
many-words (verb ∷ second ∷ third ∷ fourth ∷ []) many = absurd (omega (arith, many))
many-words (verb ∷ second ∷ third ∷ fourth ∷ fifth ∷ more) many = refl

pub returns-in_default-clause-job : goal.returns-in_default-clause-job
returns-in_default-clause-job c = elim c.in_default.branch [
  | in_default-via-then-words-lt2 w ↦ few-words c.args.words.now (search rules)
  | in_default-via-else-words-lt2+else-words-lt3+else-words-lt4+else-words-lt5 w ↦ many-words c.args.words.now (search rules)
]
