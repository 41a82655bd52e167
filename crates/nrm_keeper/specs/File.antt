-- What callers see of a keeper over a file of `sqlite`, or another store that others may write.
use Rattle.std.specs.Prelude.{ℕ, ◌≡◌, ◌&&◌, Bool, true, false, List, Option, Some, None, IsSome, IfSome, IsTrue, is_some, option_map, if◌then◌else◌, ⊤}
use Rattle.sqlite_trees.specs.declared.store.Store.{Ghosts}
use Rattle.sqlite.specs.Held.{Held, state}
use Rattle.nrm_keeper.specs.Rows.{Lists}
use Rattle.nrm_keeper.specs.Stored.{told}
use Rattle.nrm_keeper.specs.declared.row.Doubt.{Doubt}
use Rattle.nrm_keeper.specs.declared.row.KeptRow.{KeptRow}

-- a keeper of a file tells the trait no rows: it can't promise to tell them still after a call
abbrev pub untold : Option (List KeptRow)
untold = None

-- what an open file shows: whether it is clean (nobody else wrote it, and it returned what was written) and open, and the rows that it then tells
pub record Seen : Type 0 where
  pub is_steady : Bool
  pub rows : Option (List KeptRow)

-- the file as it was first opened, if it is open; whether it was lost since; whether a connection is open; the change that is in doubt, if one is;
-- and how often a call has failed
pub record FileRows : Type 0 where
  pub file : Option Seen
  pub is_lost : Bool
  pub is_open : Bool
  pub doubt : Option Doubt
  pub faults : ℕ

-- what the opener of a path shows: whether the file of the path belongs to this run, and how often an opening has failed
pub record OwnedPath : Type 0 where
  pub is_owned : Bool
  pub faults : ℕ

unfoldable pub seen : {S : Type 0} → Ghosts S → Held S → Seen
seen g h = record { is_steady = (state g h).is_clean && (state g h).is_open; rows = told (state g h).now }

abbrev pub file_view : {S : Type 0} → Ghosts S → Option (Held S) → Bool → Option Doubt → ℕ → FileRows
file_view g connection lost doubt faults = record {
  file = if lost then None else option_map (seen g) connection;
  is_lost = lost;
  is_open = is_some connection;
  doubt = doubt;
  faults = faults;
}

-- if the file is open, it is clean and open
abbrev pub IsSteadyIfOpen : Option Seen → Type 0
IsSteadyIfOpen file = IfSome file (λ seen. IsTrue seen.is_steady)

-- what has to be so for the file to hold the rows that it is taken to hold: it was never lost, and if it is open, it is clean and open
pub record IsTrusted (s : FileRows) : Type 0 where
  pub found : s.is_lost ≡ false
  pub steady : IsSteadyIfOpen s.file

abbrev pub Same : Option (List KeptRow) → Option (List KeptRow) → Type 0
Same before after = after ≡ before

-- over a file that held these rows as it was first opened
module _ (first : Option (List KeptRow)) where
  -- what the file is taken to hold: those rows before it is opened, and then the rows that it tells
  abbrev pub rows_in : Option Seen → Option (List KeptRow)
  rows_in None = first
  rows_in (Some seen) = seen.rows

  abbrev pub shown_in : FileRows → Option (List KeptRow)
  shown_in s = rows_in s.file

  -- If the file was open it is. If it is clean and open now it was so before, if it was open; and P is true of the rows that it was taken to
  -- hold and of those that are told.
  abbrev pub Across : (Option (List KeptRow) → Option (List KeptRow) → Type 0) → Option Seen → Option Seen → Type 0
  Across P None None = ⊤
  Across P None (Some after) = IsTrue after.is_steady → P first after.rows
  Across P (Some before) None = ⊥
  Across P (Some before) (Some after) = IsTrue after.is_steady → IsTrue before.is_steady × P before.rows after.rows

  -- a call that was done: the file is open, and was lost only if it was before; P is true of the rows
  pub record Done (P : Option (List KeptRow) → Option (List KeptRow) → Type 0) (old new : FileRows) : Type 0 where
    pub lost : new.is_lost ≡ old.is_lost
    pub there : new.is_lost ≡ false → IsSome new.file
    pub rows : Across P old.file new.file

  -- a call that failed: a file that was lost stays lost, and unless it is lost, the rows are the same
  pub record Failed (old new : FileRows) : Type 0 where
    pub lost : old.is_lost ≡ true → new.is_lost ≡ true
    pub rows : new.is_lost ≡ false → Across Same old.file new.file

-- the list is that of the rows, if the file is open and clean and tells them
abbrev pub ListsIn : List KeptRow → Option Seen → Type 0
ListsIn list None = ⊤
ListsIn list (Some seen) = IsTrue seen.is_steady → Lists list seen.rows
