-- The best row so far, as rows are compared for leaving.
use Rattle.std.specs.Prelude.{ℕ, ◌<◌, pos, Bool, true, List, [], get_or, length, Option, Some, None}
use Rattle.std.specs.Option.{option_map}
use Rattle.nrm_fraction.specs.Fraction.{Fraction, ◌<ᶠ◌, whole}
use Rattle.nrm_fraction.specs.Lex.{lex_below}
use Rattle.nrm_fraction.specs.Rows.{at, ratios}
use Rattle.nrm_lp.specs.Program.{ProgramValue}
use Rattle.nrm_lp.specs.Tableau.{key_columns}

-- no row, or one of the rows with a positive entry at column s
abbrev pub IsCandidate : List (List Fraction) → ℕ → Option ℕ → Type 0
IsCandidate rows s None = Unit {0}
IsCandidate rows s (Some k) = (k < length rows) × (whole (pos 0) <ᶠ at (get_or rows k []) s)

-- the row with its list, as the rule has it
abbrev pub listed : ProgramValue → List (List Fraction) → ℕ → Option ℕ → Option (ℕ × List Fraction)
listed a rows s best = option_map (λ k. (k, ratios (key_columns a) s (get_or rows k []))) best

-- whether row k leaves before the best of the rows behind it: if there is none, or if its list is less
abbrev pub wins_over : ProgramValue → List (List Fraction) → ℕ → ℕ → Option ℕ → Bool
wins_over a rows s k None = true
wins_over a rows s k (Some other) =
    lex_below (ratios (key_columns a) s (get_or rows k [])) (ratios (key_columns a) s (get_or rows other []))
