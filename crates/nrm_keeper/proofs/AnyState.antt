-- What the texts do to a connection with any schema, in no transaction.
use Rattle.std.proofs.Common.{◌≡◌, ◌⊎◌, ℕ, ◌+◌, append_assoc, List, [], ◌∷◌, ◌++◌, true, false, Option, None, Some, Result, Ok, Err, slice_get, IsTrue, IfOk, IfErr, inl, inr, sym, ap, subst, ◌∙◌}
use Rattle.std.specs.Prelude.{Vec}
use Rattle.std.specs.declared.alloc.Global.{Global}
use Rattle.std.proofs.lemmas.Bool.{cases_Bool}
use Rattle.sqlite_value.specs.Order.{Row}
use Rattle.sqlite_schema.specs.declared.schema.Table.{Table}
use Rattle.sqlite_schema.specs.declared.schema.Index.{Index}
use Rattle.sqlite_schema.specs.declared.schema.Schema.{Schema}
use Rattle.sqlite_trees.specs.Tree.{Trees}
use Rattle.sqlite_catalog.specs.Calls.{CreatesTable}
use Rattle.sqlite_catalog.specs.Change.{next_tree, automatics}
use Rattle.sqlite_schema.specs.declared.command.Command.{Command}
use Rattle.sqlite_schema.specs.declared.command.Command.TheVariants.{Insert, Delete, CreateTable, Nothing}
use Rattle.sqlite_schema.specs.declared.command.Returning.{Returning}
use Rattle.sqlite_resolve.specs.declared.compiled.Compiled.{Compiled}
use Rattle.sqlite.specs.declared.error.Error.{Error}
use Rattle.sqlite.specs.Effect.{Database}
use Rattle.sqlite.specs.Rows.{Part}
use Rattle.sqlite.specs.Does.{Tally, Does, AtPlace, lacks_sequence, sequence_text}
use Rattle.sqlite.specs.Listing.{understood}
use Rattle.sqlite.specs.Clock.{timed}
use Rattle.sqlite.specs.State.{State, IsUnchanged, IsRolledBack, Runs, RunsCommand, text_of, shows_rows, ExecutesIn, Executes, IsNotRun, Shown, ShowsRows, FailsToShow, FailsToQuery, mode_of}
use Rattle.nrm_keeper.specs.Inner.Table.{create_text, insert_text, delete_text, select_text, find_text}
use Rattle.nrm_keeper.proofs.Creates.{went, same_value}
use Rattle.nrm_keeper.proofs.AnySchema.{is_delete, is_insert, is_create, delete_is_plain, insert_is_plain, create_is_plain, select_is_plain, find_is_plain}

-- ---- refusals and failures

abbrev pub Stays : State → State → Type 0
Stays old new = IsUnchanged old new ⊎ IsRolledBack old new

not_run_stays : (old new : State) (sql : List ℕ) (params : Row) (e : Error) → IsNotRun old new sql params e → Stays old new
unfolding IsNotRun
not_run_stays old new sql params e (inl h) = inl h.1
not_run_stays old new sql params e (inr h) = inr h.3

command_stays : (old new : State) (sql : List ℕ) (c : Compiled) (params : Row) (e : Error) → RunsCommand old new sql c params (Err e) → Stays old new
command_stays old new sql c params e (inl h) = inl h.1
command_stays old new sql c params e (inr h) = inr h.3

pub refused_stays : (sql : List ℕ) (params : Row) (old new : State) (e : Error) → Executes sql params old new (Err e) → Stays old new
unfolding ExecutesIn
refused_stays sql params old new e (inl h) = not_run_stays old new sql params e h
refused_stays sql params old new e (inr h) = elim (cases_Bool (shows_rows false h.0)) [
  | inl shows ↦ inl (rw shows at h.2).1
  | inr runs ↦ command_stays old new sql h.0 (timed params h.0.formats h.1.now) e (rw runs at h.2)
]

-- a connection in no transaction sees what it saw
pub record Same (old new : State) : Type 0 where
  pub now : new.now ≡ old.now
  pub autocommit : new.in_transaction ≡ false

pub stays_same : (old new : State) → Stays old new → old.in_transaction ≡ false → (IsTrue old.is_open → old.now ≡ old.committed) → IsTrue new.is_open → Same old new
stays_same old new (inl h) alone settled live = record { now = h.0.now_is; autocommit = h.0.mode ∙ alone }
stays_same old new (inr h) alone settled live = record { now = (h.undone live).0 ∙ sym (settled (h.was_open live)); autocommit = h.autocommit }

-- a store that is open was open before
pub stays_open : (old new : State) → Stays old new → IsTrue new.is_open → IsTrue old.is_open
stays_open old new (inl h) live = h.0.was_open
stays_open old new (inr h) live = h.was_open live

-- ---- what was run

record Ran (sql : List ℕ) (params : Row) (old new : State) (count : ℕ) : Type 0 where
  c : Compiled
  is : understood old.now.schema sql ≡ Ok c
  given : Row
  runs : Runs old new c.returning c.command (text_of sql c) given count

ran : (sql : List ℕ) (params : Row) (old new : State) (count : ℕ) → Executes sql params old new (Ok count) → Ran sql params old new count
unfolding ExecutesIn
ran sql params old new count h = record {
  c = h.0;
  is = h.1.is;
  given = timed params h.0.formats h.1.now;
  runs = elim (cases_Bool (shows_rows false h.0)) [
    | inl shows ↦ absurd (let e = (rw shows at h.2).0 in cc)
    | inr runs ↦ rw runs at h.2
  ];
}

placed : (P : Table → Part (Tally × Database)) (o : Option Table) (answer : Tally × Database) → AtPlace P o (Ok answer) → (table : Table) × P table (Ok answer)
placed P None answer h = absurd (cc)
placed P (Some table) answer h = (table, h)

-- a write of rows leaves the schema
pub record Rewrites (old new : State) : Type 0 where
  pub was_open : IsTrue old.is_open
  pub schema : new.now.schema ≡ old.now.schema
  pub mode : new.in_transaction ≡ old.in_transaction

delete_rewrites : (old new : State) (returning : Option Returning) (command : Command) (text : List ℕ) (params : Row) (count : ℕ) → is_delete command ≡ true
    → Runs old new returning command text params count → Rewrites old new
delete_rewrites old new returning (Delete at q) text params count plain w =
    let done = placed _ (slice_get old.now.schema.tables at) _ w.changed in
    let last = same_value (went (went (went done.1).2).2).2 in
    record { schema = ap (λ (p : Tally × Database). p.1.schema) last; mode = w.shown.mode; was_open = w.shown.was_open }
delete_rewrites old new returning _ text params count plain w = absurd (let e : false ≡ true = plain in cc)

insert_rewrites : (old new : State) (returning : Option Returning) (command : Command) (text : List ℕ) (params : Row) (count : ℕ) → is_insert command ≡ true
    → Runs old new returning command text params count → Rewrites old new
insert_rewrites old new returning (Insert at from) text params count plain w =
    let done = placed _ (slice_get old.now.schema.tables at) _ w.changed in
    let last = same_value (went (went (went done.1).2).2).2 in
    record { schema = ap (λ (p : Tally × Database). p.1.schema) last; mode = w.shown.mode; was_open = w.shown.was_open }
insert_rewrites old new returning _ text params count plain w = absurd (let e : false ≡ true = plain in cc)

pub deletes_any : (params : Row) (old new : State) (count : ℕ) → Executes delete_text params old new (Ok count) → Rewrites old new
deletes_any params old new count h =
    let it = ran delete_text params old new count h in delete_rewrites old new it.c.returning it.c.command _ it.given count (delete_is_plain old.now.schema it.c it.is).0 it.runs

pub inserts_any : (params : Row) (old new : State) (count : ℕ) → Executes insert_text params old new (Ok count) → Rewrites old new
inserts_any params old new count h =
    let it = ran insert_text params old new count h in insert_rewrites old new it.c.returning it.c.command _ it.given count (insert_is_plain old.now.schema it.c it.is).0 it.runs

-- the schema has one table more at least, and the same views
pub record Grown (before after : Schema) : Type 0 where
  pub table : Table
  pub tables : List Table
  pub indexes : List Index
  pub is : after ≡ record { tables = before.tables ++ table ∷ tables; indexes = before.indexes ++ indexes; views = before.views }

one_more : (schema after : Schema) (text : List ℕ) (db next : Trees) → CreatesTable schema text db after next → Grown schema after
one_more schema after text db next made =
    let new : Table = record made.table { tree = next_tree schema } in record { table = new; tables = []; indexes = automatics new 0 (new.tree + 1) new.uniques; is = made.is }

two_more : (a b c : Schema) → Grown a b → Grown b c → Grown a c
two_more a b c p q =
    record {
      table = p.table;
      tables = p.tables ++ q.table ∷ q.tables;
      indexes = p.indexes ++ q.indexes;
      is = q.is ∙ ap (λ (s : Schema). record { tables = s.tables ++ q.table ∷ q.tables; indexes = s.indexes ++ q.indexes; views = s.views }) p.is
          ∙ (λ i. record { tables = append_assoc a.tables (p.table ∷ p.tables) (q.table ∷ q.tables) i; indexes = append_assoc a.indexes p.indexes q.indexes i; views = a.views });
    }

pub record Created (old new : State) : Type 0 where
  pub made : (new.now ≡ old.now) ⊎ Grown old.now.schema new.now.schema
  pub mode : new.in_transaction ≡ old.in_transaction
  pub was_open : IsTrue old.is_open

create_grows : (old new : State) (returning : Option Returning) (command : Command) (text : List ℕ) (params : Row) (count : ℕ) → is_create command ≡ true → returning ≡ None
    → Runs old new returning command text params count → Created old new
create_grows old new returning Nothing text params count plain none h = record { made = inl h.0.0.now_is; mode = h.0.0.mode; was_open = h.0.0.was_open }
create_grows old new returning CreateTable text params count plain none w =
    let changed = subst (λ r. Does old.step_limit (mode_of old) params old.now text r CreateTable (Ok (w.tally, new.now))) none w.changed in
    let all = went changed in
    let made = went all.1 in
    let now : new.now ≡ all.0 = ap (λ (p : Tally × Database). p.1) (same_value all.2) in
    let first = one_more old.now.schema made.0.schema text old.now.trees made.0.trees made.1 in
    let grown : Grown old.now.schema all.0.schema = elim (cases_Bool (lacks_sequence made.0.schema)) [
      | inl lacks ↦ two_more old.now.schema made.0.schema all.0.schema first (one_more made.0.schema all.0.schema sequence_text made.0.trees all.0.trees (rw lacks at made.2))
      | inr has ↦ subst (λ (d : Database). Grown old.now.schema d.schema) (sym (same_value (rw has at made.2))) first
    ] in
    record { made = inr (subst (λ (d : Database). Grown old.now.schema d.schema) (sym now) grown); mode = w.shown.mode; was_open = w.shown.was_open }
create_grows old new returning _ text params count plain none w = absurd (let e : false ≡ true = plain in cc)

pub creates_any : (old new : State) (count : ℕ) → Executes create_text [] old new (Ok count) → Created old new
creates_any old new count h =
    let it = ran create_text [] old new count h in
    let plain = create_is_plain old.now.schema it.c it.is in
    create_grows old new it.c.returning it.c.command _ it.given count plain.0 plain.1 it.runs

-- ---- queries

pub shown_stays : (old new : State) (rows : List Row) → Shown select_text [] old new rows → Stays old new
unfolding Shown
shown_stays old new rows h = inl (subst (λ r. ShowsRows old new select_text h.0 (timed [] h.0.formats h.1.now) rows r) (select_is_plain old.now.schema h.0 h.1.is) h.2).3

pub query_stays : (old new : State) (e : Error) → FailsToQuery select_text [] old new e → Stays old new
unfolding FailsToQuery
query_stays old new e (inl h) = not_run_stays old new select_text [] e h
query_stays old new e (inr h) = inl (subst (λ r. FailsToShow old new select_text h.0 (timed [] h.0.formats h.1.now) e r) (select_is_plain old.now.schema h.0 h.1.is) h.2).3

-- ---- a store that is open after a statement was open before it

pub insert_was_open : (params : Row) (old new : State) (r : Result ℕ Error) → Executes insert_text params old new r → IsTrue new.is_open → IsTrue old.is_open
insert_was_open params old new (Ok count) h live = (inserts_any params old new count h).was_open
insert_was_open params old new (Err e) h live = stays_open old new (refused_stays insert_text params old new e h) live

pub delete_was_open : (params : Row) (old new : State) (r : Result ℕ Error) → Executes delete_text params old new r → IsTrue new.is_open → IsTrue old.is_open
delete_was_open params old new (Ok count) h live = (deletes_any params old new count h).was_open
delete_was_open params old new (Err e) h live = stays_open old new (refused_stays delete_text params old new e h) live

pub select_was_open : (old new : State) (r : Result (Vec Row Global) Error) → IfOk r (λ found. Shown select_text [] old new found.items)
    → IfErr r (FailsToQuery select_text [] old new) → IsTrue new.is_open → IsTrue old.is_open
select_was_open old new (Ok found) h e live = stays_open old new (shown_stays old new found.items h) live
select_was_open old new (Err error) h e live = stays_open old new (query_stays old new error e) live

pub create_was_open : (old new : State) (r : Result ℕ Error) → Executes create_text [] old new r → IsTrue new.is_open → IsTrue old.is_open
create_was_open old new (Ok count) h live = (creates_any old new count h).was_open
create_was_open old new (Err e) h live = stays_open old new (refused_stays create_text [] old new e h) live

-- ---- the fifth text

pub found_stays : (params : Row) (old new : State) (rows : List Row) → Shown find_text params old new rows → Stays old new
unfolding Shown
found_stays params old new rows h = inl (subst (λ r. ShowsRows old new find_text h.0 (timed params h.0.formats h.1.now) rows r) (find_is_plain old.now.schema h.0 h.1.is) h.2).3

pub find_stays : (params : Row) (old new : State) (e : Error) → FailsToQuery find_text params old new e → Stays old new
unfolding FailsToQuery
find_stays params old new e (inl h) = not_run_stays old new find_text params e h
find_stays params old new e (inr h) = inl (subst (λ r. FailsToShow old new find_text h.0 (timed params h.0.formats h.1.now) e r) (find_is_plain old.now.schema h.0 h.1.is) h.2).3

pub find_was_open : (params : Row) (old new : State) (r : Result (Vec Row Global) Error) → IfOk r (λ found. Shown find_text params old new found.items)
    → IfErr r (FailsToQuery find_text params old new) → IsTrue new.is_open → IsTrue old.is_open
find_was_open params old new (Ok found) h e live = stays_open old new (found_stays params old new found.items h) live
find_was_open params old new (Err error) h e live = stays_open old new (find_stays params old new error e) live
