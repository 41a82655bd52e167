-- A connection that may be shut, before and after a call on it.
use Rattle.std.specs.Prelude.{◌≡◌, List, Option, Some, None, ⊤}
use Rattle.sqlite_trees.specs.declared.store.Store.{Ghosts}
use Rattle.sqlite.specs.Held.{Held, state}
use Rattle.nrm_keeper.specs.declared.row.KeptRow.{KeptRow}
use Rattle.nrm_keeper.specs.Stored.{told}
use Rattle.nrm_keeper.specs.Steady.{IsSteady}

module _ {S : Type 0} (g : Ghosts S) where
  -- It is the same connection. If it is clean and open now it was so before, and P is true of the rows that were told and are.
  abbrev pub Passes : (Option (List KeptRow) → Option (List KeptRow) → Type 0) → Option (Held S) → Option (Held S) → Type 0
  Passes P None new = new ≡ None
  Passes P (Some old) None = ⊥
  Passes P (Some old) (Some new) = IsSteady (state g new) → IsSteady (state g old) × P (told (state g old).now) (told (state g new).now)

  -- a connection that tells these rows if it is clean and open
  abbrev pub TellsRows : Option (List KeptRow) → Option (Held S) → Type 0
  TellsRows rows None = ⊤
  TellsRows rows (Some h) = IsSteady (state g h) → told (state g h).now ≡ rows
