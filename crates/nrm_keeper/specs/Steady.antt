-- When a store of `sqlite` can be relied on, and what its keeper keeps true of its connection.
use Rattle.std.specs.Prelude.{◌≡◌, false, Option, Some, None, IsTrue, ⊤}
use Rattle.sqlite_trees.specs.declared.store.Store.{Ghosts}
use Rattle.sqlite.specs.Held.{Held, state}
use Rattle.sqlite.specs.State.{State, HasCleanDisk}

-- the store is clean (nobody else wrote it, and it returned what was written) and open
pub record IsSteady (store : State) : Type 0 where
  pub clean : HasCleanDisk store
  pub live : IsTrue store.is_open

module _ {S : Type 0} (g : Ghosts S) where
  -- a connection that is clean and open is in no transaction
  abbrev pub IsSettled : Option (Held S) → Type 0
  IsSettled None = ⊤
  IsSettled (Some h) = IsSteady (state g h) → h.in_transaction ≡ false
