-- Files that were empty as they were first opened tell the empty list.
use Rattle.std.proofs.Common.{◌≡◌, [], ◌∷◌, List, Some, arith, inl, inr, refl, subst}
use Rattle.std.specs.List.{AllZip}
use Rattle.sqlite_value.specs.Order.{Row}
use Rattle.sqlite_trees.specs.Objects.{catalog_tree}
use Rattle.sqlite_trees.specs.Tree.{Trees}
use Rattle.sqlite_catalog.specs.Listing.{Lists, IsTableRow, IsIndexRow, IsViewRow}
use Rattle.sqlite.specs.Files.{AreFoundIn}
use Rattle.sqlite.specs.Effect.{Database}
use Rattle.nrm_keeper.specs.Stored.{told}
use Rattle.nrm_keeper.specs.Beginning.{BeginsWith}

none_beside : {X Y : Type 0} (P : X → Y → Type 0) (ys : List Y) → AllZip P [] ys → ys ≡ []
none_beside P [] h = refl
none_beside P (y ∷ ys) h = absurd h

-- an empty file holds no pages, so its trees are empty
empty_trees : (db : Trees) → AreFoundIn (record { log = []; db = [] }) db → db catalog_tree ≡ []
empty_trees db (inl found) = absurd (omega (arith, found.3.found.present))
empty_trees db (inr found) = found.1.1

-- a store that lists nothing tells the empty list
told_none : (db : Database) → Lists [] db.schema → told db ≡ Some []
told_none db lists =
    rw (none_beside IsTableRow db.schema.tables lists.listed.tables, none_beside (IsIndexRow db.schema.tables) db.schema.indexes lists.listed.indexes, none_beside IsViewRow db.schema.views lists.listed.views) refl

pub empty_begins : BeginsWith (record { log = []; db = [] }) (Some [])
empty_begins db sound found = told_none db (subst (λ (objects : List Row). Lists objects db.schema) (empty_trees db.trees found) sound.lists)
