-- What becomes of a change that failed, and may be in the file all the same.
use Rattle.std.specs.Prelude.{◌≡◌, ◌≢◌, ◌⊎◌, ℕ, Bool, true, false, IfSome, IsTrue, List, Option, Some, None, ⊤}
use Rattle.nrm_keeper.specs.declared.row.Doubt.{Doubt}
use Rattle.nrm_keeper.specs.declared.row.KeptRow.{KeptRow}
use Rattle.nrm_keeper.specs.File.{FileRows, Same, Seen}
use Rattle.nrm_keeper.specs.Rows.{Adds, Drops, numbered}

-- It is undone by what is found at its number: a row that was to be dropped is added again if none is there, and one that was to be added is
-- dropped if it is there just so; else the rows stay.
abbrev pub UndoesFound : Bool → KeptRow → Option KeptRow → Option (List KeptRow) → Option (List KeptRow) → Type 0
UndoesFound true row None before after = Adds row before after
UndoesFound true row (Some found) before after = Same before after
UndoesFound false row None before after = Same before after
UndoesFound false row (Some found) before after = (found ≡ row → Drops row.number before after) × (found ≢ row → Same before after)

-- so is the change that is in doubt, if one is and rows are told
abbrev pub Undoes : Option Doubt → Option (List KeptRow) → Option (List KeptRow) → Type 0
Undoes None before after = Same before after
Undoes (Some change) None after = ⊤
Undoes (Some change) (Some rows) after = UndoesFound change.was_kept change.row (numbered change.row.number rows) (Some rows) after

-- if a row was to be dropped, it is the one of its number among the rows that are told
abbrev pub IsOfRows : Doubt → Option (List KeptRow) → Type 0
IsOfRows change None = ⊤
IsOfRows change (Some rows) = IsTrue change.was_kept → numbered change.row.number rows ≡ Some change.row

-- so it is of the rows of an open file, if it is clean and open
abbrev pub IsOfRowsIn : Doubt → Option Seen → Type 0
IsOfRowsIn change file = IfSome file (λ seen. IsTrue seen.is_steady → IsOfRows change seen.rows)

-- after a change that failed: it is in doubt, or the connection still answered, and nothing is
abbrev pub IsInDoubt : Doubt → FileRows → Type 0
IsInDoubt change s = (s.doubt ≡ Some change) ⊎ ((s.doubt ≡ None) × IsTrue s.is_open)

-- after a call that failed to add a row: so it is of that change, or what was in doubt before is so still
abbrev pub LeavesInDoubt : KeptRow → FileRows → FileRows → Type 0
LeavesInDoubt row old new = IsInDoubt (record { row = row; was_kept = false }) new ⊎ (new.doubt ≡ old.doubt)

-- after one that failed to drop the row of a number: that change is in doubt, or nothing, or what was before
abbrev pub LeavesDropInDoubt : ℕ → FileRows → FileRows → Type 0
LeavesDropInDoubt number old new =
    ((row : KeptRow) × ((row.number ≡ number) × (new.doubt ≡ Some (record { row = row; was_kept = true }))))
    ⊎ ((new.doubt ≡ None) ⊎ (new.doubt ≡ old.doubt))
