-- What files held as they were first opened, and the rows that they then tell.
use Rattle.std.specs.Prelude.{◌≡◌, List, Option}
use Rattle.sqlite.specs.Recovery.{Image}
use Rattle.sqlite.specs.Effect.{Database, IsDatabase}
use Rattle.sqlite.specs.Files.{AreFoundIn}
use Rattle.nrm_keeper.specs.declared.row.KeptRow.{KeptRow}
use Rattle.nrm_keeper.specs.Stored.{told}

-- a database that is found in files with these contents tells these rows
abbrev pub BeginsWith : Image → Option (List KeptRow) → Type 0
BeginsWith image rows = (db : Database) → IsDatabase db → AreFoundIn image db.trees → told db ≡ rows
