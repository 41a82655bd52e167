-- The programs of the tests are within the limits.
use Rattle.std.proofs.Common.{◌≡◌, ℕ, List, sym, subst, true}
use Rattle.nrm_lp.specs.Program.{ProgramValue}
use Rattle.nrm_lp.specs.Limits.{IsLimited}
use Rattle.nrm_lp.proofs.Fits.{IsLimited-from_test, program_fits}

abbrev pub program_of : List ℕ → List ℕ → List ℕ → List (List ℕ) → ProgramValue
program_of caps bounds fares legs = record { caps = caps; bounds = bounds; fares = fares; legs = legs }

pub limited : (caps caps' bounds bounds' fares fares' : List ℕ) (legs legs' : List (List ℕ)) → caps ≡ caps' → bounds ≡ bounds' → fares ≡ fares' → legs ≡ legs' → program_fits (program_of caps' bounds' fares' legs') ≡ true → IsLimited (program_of caps bounds fares legs)
limited caps caps' bounds bounds' fares fares' legs legs' e f g h fits =
    subst IsLimited (λ i. program_of (sym e i) (sym f i) (sym g i) (sym h i)) (IsLimited-from_test (program_of caps' bounds' fares' legs') fits)
