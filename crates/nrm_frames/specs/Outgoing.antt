-- The frames that are written.
use Rattle.std.specs.Prelude.{ℕ, List, [], ◌∷◌, ◌++◌, codes, decimal, length}
use Rattle.nrm_text.specs.Words.{text_line}
use Rattle.nrm_frames.specs.declared.why.Why.{Why}
use Rattle.nrm_frames.specs.declared.why.Why.TheVariants as why

-- why a client is closed
abbrev pub why_word : Why → List ℕ
why_word why.Gone = codes "gone"
why_word why.Elsewhere = codes "elsewhere"
why_word why.Long = codes "long"
why_word why.Window = codes "window"
why_word why.Sequence = codes "sequence"
why_word why.Old = codes "old"
why_word why.Desks = codes "desks"
why_word why.Rows = codes "rows"
why_word why.Memory = codes "memory"

-- The journal was given again, and so many lines are in it; rows of the journal to be kept; bytes for the client at a place, behind
-- how many of its own have been used since; a client is closed; a row that is none of the journal, and one whose stored reply isn't
-- the program's.
pub data Output : Type 0 where
  ready : ℕ → Output
  keep : List ℕ → Output
  send : ℕ → ℕ → List ℕ → Output
  close : ℕ → Why → Output
  no_row : ℕ → Output
  differs : ℕ → Output

abbrev pub output_text : Output → List ℕ
output_text (ready rows) = text_line (codes "ready" ∷ decimal rows ∷ [])
output_text (keep rows) = text_line (codes "keep" ∷ decimal (length rows) ∷ []) ++ rows
output_text (send place used bytes) =
    text_line (codes "send" ∷ decimal place ∷ decimal used ∷ decimal (length bytes) ∷ []) ++ bytes
output_text (close place reason) = text_line (codes "close" ∷ decimal place ∷ why_word reason ∷ [])
output_text (no_row row) = text_line (codes "no" ∷ codes "row" ∷ decimal row ∷ [])
output_text (differs row) = text_line (codes "differs" ∷ decimal row ∷ [])
