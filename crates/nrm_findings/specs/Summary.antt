-- The line that sums a made run up.
use Rattle.std.specs.Prelude.{ℕ, pos, List, [], ◌∷◌, ◌++◌, codes, decimal, Option, Some, None, option_map}
use Rattle.nrm_fraction.specs.Fraction.{Fraction, ◌over◌}
use Rattle.nrm_text.specs.Fractions.{fraction_text}
use Rattle.nrm_gen.specs.MadeCommands.{command_count}
use Rattle.nrm_findings.specs.declared.summary.Counts.{Counts}

abbrev pub nothing_counted : Counts
nothing_counted = record { sold = 0; no_leg = 0; no_fare = 0; cancelled = 0; unknown = 0; legs = 0; optimised = 0; overflow = 0 }

-- the fraction of a numerator and a denominator
abbrev pub fraction_of : Option (ℕ × ℕ) → Option Fraction
fraction_of = option_map (λ value. pos value.0 over value.1)

-- the value of hindsight, or that its linear program is Large
abbrev pub hindsight_word : Option Fraction → List ℕ
hindsight_word (Some value) = fraction_text value
hindsight_word None = codes "overflow"

-- how many commands there are, and each count with its word
abbrev pub count_words : Counts → List (List ℕ)
count_words c =
    codes "made" ∷ codes "lines" ∷ decimal command_count ∷ codes "ok" ∷ decimal c.sold ∷ codes "no" ∷ decimal c.no_leg
    ∷ codes "fare" ∷ decimal c.no_fare ∷ codes "cancelled" ∷ decimal c.cancelled ∷ codes "unknown" ∷ decimal c.unknown
    ∷ codes "legs" ∷ decimal c.legs ∷ codes "optimised" ∷ decimal c.optimised ∷ codes "overflow" ∷ decimal c.overflow ∷ []

-- and the revenue and the word of hindsight
abbrev pub summary_words : Counts → ℕ → List ℕ → List (List ℕ)
summary_words c revenue hindsight = count_words c ++ codes "revenue" ∷ decimal revenue ∷ codes "hindsight" ∷ hindsight ∷ []
