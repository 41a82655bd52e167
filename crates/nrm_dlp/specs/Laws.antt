-- The programs of a network are within the limits, and hindsight has one value that no allocation exceeds.
use Rattle.std.specs.Prelude.{ℕ, ℤ, ◌≡◌, ◌<◌, ◌≤◌, ◌⊎◌, List, length, slice_index, All}
use Rattle.nrm_fraction.specs.Fraction.{Fraction}
use Rattle.nrm_model.specs.Network.{NetworkValue, leg_of}
use Rattle.nrm_model.specs.Limits.{IsNetwork}
use Rattle.nrm_lp.specs.Limits.{IsLimited}
use Rattle.nrm_lp.specs.declared.limits.TheConstants.{MOST_SEATS_IN_ALL}
use Rattle.nrm_dlp.specs.Hindsight.{AreTallies, BoundsAllocations, HindsightOverflows, IsAttained, IsHindsight}
use Rattle.nrm_dlp.specs.Programs.{hindsight_program, program_of, program_at, opening_program}

-- with a cap for each leg and a bound for each product, none of them above the most of a program
abbrev pub ProgramsAreLimited : Type 0
ProgramsAreLimited = (net : NetworkValue) (caps bounds : List ℕ) → IsNetwork net
    → length caps ≡ length net.legs → All (λ cap. cap ≤ MOST_SEATS_IN_ALL) caps
    → length bounds ≡ length net.products → All (λ bound. bound ≤ MOST_SEATS_IN_ALL) bounds → IsLimited (program_of net caps bounds)

-- at seats left, on no leg more than its authorised seats, in any period
abbrev pub SeatsLeftAreLimited : Type 0
SeatsLeftAreLimited = (net : NetworkValue) (left : List ℕ) (period : ℕ) → IsNetwork net → length left ≡ length net.legs
    → ((leg : ℕ) → leg < length net.legs → slice_index left leg ≤ (leg_of net leg).authorised) → IsLimited (program_at net left period)

-- and before anything is sold
abbrev pub OpeningsAreLimited : Type 0
OpeningsAreLimited = (net : NetworkValue) → IsNetwork net → IsLimited (opening_program net)

-- and with tallies as bounds
abbrev pub HindsightsAreLimited : Type 0
HindsightsAreLimited = (net : NetworkValue) (tallies : List ℕ) → IsNetwork net → AreTallies net tallies
    → IsLimited (hindsight_program net tallies)

-- no allocation of the program of hindsight gains more than its value, as fractions
abbrev pub HindsightsBoundAllocations : Type 0
HindsightsBoundAllocations = (net : NetworkValue) (tallies : List ℕ) (value : Fraction) → IsNetwork net → AreTallies net tallies
    → IsHindsight net tallies value → BoundsAllocations (hindsight_program net tallies) value

-- and some allocation gains it: it is the least such bound
abbrev pub HindsightsAreAttained : Type 0
HindsightsAreAttained = (net : NetworkValue) (tallies : List ℕ) (value : Fraction) → IsNetwork net → AreTallies net tallies
    → IsHindsight net tallies value → IsAttained (hindsight_program net tallies) value

-- tallies have a value of hindsight, or its program is Large
abbrev pub EachHasAHindsight : Type 0
EachHasAHindsight = (net : NetworkValue) (tallies : List ℕ)
    → ((value : Fraction) × IsHindsight net tallies value) ⊎ ((n : ℕ) × (number : ℤ) × HindsightOverflows net tallies n number)

-- they have one value, or their program is Large in one place, and not both
pub record HasOneHindsight (net : NetworkValue) (tallies : List ℕ) : Type 0 where
  pub value : (value other : Fraction) → IsHindsight net tallies value → IsHindsight net tallies other → other ≡ value
  pub overflow : (n n' : ℕ) (number number' : ℤ) → HindsightOverflows net tallies n number → HindsightOverflows net tallies n' number'
      → (n' ≡ n) × (number' ≡ number)
  pub apart : (value : Fraction) (n : ℕ) (number : ℤ) → IsHindsight net tallies value → HindsightOverflows net tallies n number → ⊥

abbrev pub HindsightsAreDetermined : Type 0
HindsightsAreDetermined = (net : NetworkValue) (tallies : List ℕ) → HasOneHindsight net tallies
