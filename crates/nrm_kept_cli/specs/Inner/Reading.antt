-- How the rows of a keeper are read.
use Rattle.std.specs.Prelude.{List, Option, ⊤}
use Rattle.nrm_keeper.specs.declared.keeper.Keeper.{Ghosts}
use Rattle.nrm_keeper.specs.declared.row.KeptRow.{KeptRow}

-- as the keeper tells them outright, or as it shows them, on trust
pub data Reading : Type 0 where
  outright : Reading
  on_trust : Reading

module _ {P : Type 0} (keeps : Ghosts P) where
  -- the rows of a keeper, read so
  abbrev pub rows_by : Reading → P → Option (List KeptRow)
  rows_by outright keeper = keeps.rows keeper
  rows_by on_trust keeper = keeps.shown keeper

  -- what has to be so for these to be its rows
  abbrev pub Trusts : Reading → P → Type 0
  Trusts outright keeper = ⊤
  Trusts on_trust keeper = keeps.trusted keeper

  -- However the rows are read: what is trusted of the keeper after a call was trusted before it, and then this is true of the rows before
  -- and after it.
  abbrev pub HoweverRead : (Option (List KeptRow) → Option (List KeptRow) → Type 0) → P → P → Type 0
  HoweverRead Is old new = (how : Reading) → Trusts how new → Trusts how old × Is (rows_by how old) (rows_by how new)
