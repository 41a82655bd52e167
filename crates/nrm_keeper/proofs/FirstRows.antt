-- A connection that was just opened tells what the files held.
use Rattle.std.proofs.Common.{◌≡◌, ◌∙◌, ℕ, List, Option, Some, sym, ap, subst}
use Rattle.sqlite_trees.specs.declared.store.Store.{Ghosts}
use Rattle.sqlite.specs.Recovery.{Image}
use Rattle.sqlite.specs.Effect.{Database}
use Rattle.sqlite.specs.Files.{AreFoundIn}
use Rattle.sqlite.specs.Held.{Held, state}
use Rattle.sqlite.specs.Start.{FindsIn}
use Rattle.sqlite.specs.State.{HasCleanDisk, IsLive, Opens}
use Rattle.nrm_keeper.specs.declared.row.KeptRow.{KeptRow}
use Rattle.nrm_keeper.specs.Beginning.{BeginsWith}
use Rattle.nrm_keeper.specs.Steady.{IsSteady}
use Rattle.nrm_keeper.specs.Stored.{told}
use Rattle.nrm_keeper.specs.Passes.{TellsRows}

-- with a limit of steps
pub first_told : (S : Type 0) (g : Ghosts S) (image : Image) (rows : Option (List KeptRow)) (opened limited : Held S) (limit : Option ℕ) → BeginsWith image rows → limited ≡ record opened { step_limit = limit }
    → (HasCleanDisk (state g opened) → Opens (state g opened) × IsLive (state g opened)) → (HasCleanDisk (state g opened) → FindsIn image (state g opened)) → TellsRows g rows (Some limited)
first_told S g image rows opened limited limit begins is opens finds steady =
    let was = subst (λ (h : Held S). IsSteady (state g h)) is steady in
    let (shown, live) = opens was.clean in
    let found = subst (λ (db : Database). AreFoundIn image db.trees) (sym shown.clean) (finds was.clean).reads in
    ap (λ (h : Held S). told (state g h).now) is ∙ begins (state g opened).now (live shown.is_open).0 found
