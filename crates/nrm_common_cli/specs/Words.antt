-- What programs over a network have in common: the words for modes, and the line of a program that is Large.
use Rattle.std.specs.Prelude.{ℕ, ℤ, ◌-◌, ◌^◌, min, decimal, List, [], ◌∷◌, bytes_eq, codes, Option, Some, None, if◌then◌else◌}
use Rattle.nrm_text.specs.Fractions.{signed_text}
use Rattle.nrm_text.specs.Words.{text_line}
use Rattle.nrm_model.specs.declared.mode.Mode.{Mode}
use Rattle.nrm_model.specs.declared.mode.Mode.TheVariants as mode

-- the mode of a word
abbrev pub mode_of : List ℕ → Option Mode
mode_of word =
    if bytes_eq word (codes "first") then Some mode.FirstCome
    else if bytes_eq word (codes "bid") then Some mode.Bid
    else if bytes_eq word (codes "davn") then Some mode.Davn
    else None

-- finished pivots as they are told: 4,294,967,295 stands for more
abbrev pub told_pivots : ℕ → ℕ
told_pivots n = min n (2 ^ 32 - 1)

-- the line that says that the opening linear program is Large: after so many pivots, at which number
abbrev pub overflow_line : ℕ → ℤ → List ℕ
overflow_line pivots number =
    text_line (codes "overflow" ∷ codes "after" ∷ decimal pivots ∷ codes "pivots" ∷ codes "at" ∷ signed_text number ∷ [])
