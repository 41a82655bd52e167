-- The statements over a store in memory, which is always clean and open.
use Rattle.std.proofs.Common.{[], ◌≡◌, ℕ, List, false, Option, Some, None, Ok, Err, Result, OnOk, OnErr, IfOk, refl, sym, subst, ◌∙◌}
use Rattle.std.specs.Prelude.{Vec}
use Rattle.std.specs.declared.alloc.Global.{Global}
use Rattle.sqlite_trees.specs.declared.memory.MemStore.{MemStore}
use Rattle.sqlite.specs.Held.{Held, state}
use Rattle.sqlite.specs.Steps.{over_memory}
use Rattle.sqlite.proofs.Callers.{memory_is_clean}
use Rattle.nrm_keeper.specs.declared.row.KeptRow.{KeptRow}
use Rattle.nrm_keeper.specs.declared.row.KeepFault.{KeepFault}
use Rattle.nrm_keeper.specs.Rows.{Adds, Drops, Keeps, Lists}
use Rattle.nrm_keeper.specs.Inner.Statements.{Speaks}
use Rattle.nrm_keeper.specs.Stored.{no_schema, told}
use Rattle.nrm_keeper.specs.Told.{told_by}

abbrev pub SpeaksOf : Held MemStore → Held MemStore → Type 0
SpeaksOf old new = Speaks (state over_memory old) (state over_memory new)

pub spoken : (old new : Held MemStore) → old.in_transaction ≡ false → SpeaksOf old new
spoken old new alone = record { steady = record { clean = memory_is_clean new; live = refl }; alone = alone }

abbrev pub now_told : Held MemStore → Option (List KeptRow)
now_told h = told (state over_memory h).now

keeps_by : (before after : Option (List KeptRow)) → after ≡ before → Keeps before after
keeps_by None after same = tt
keeps_by (Some rows) after same = same

on_ok : {T E P : Type 0} (r : Result T E) → P → OnOk r P
on_ok (Ok x) p = p
on_ok (Err e) p = tt

on_err : {T E P : Type 0} (r : Result T E) → P → OnErr r P
on_err (Ok x) p = tt
on_err (Err e) p = p

-- what a call says of a connection, as the keeper says it, whose answer is that of the call
module _ (old new : Held MemStore) (alone : old.in_transaction ≡ false) (before : Option (List KeptRow)) (same : told_by old ≡ before) where
  pub adds_in : (row : KeptRow) (r answer : Result (Unit {0}) KeepFault) → answer ≡ r → (SpeaksOf old new → OnOk r (Adds row (now_told old) (now_told new)))
      → OnOk answer (Adds row before (told_by new))
  unfolding told_by
  adds_in row r answer is adds = subst (λ a. OnOk a (Adds row before (told_by new))) (sym is) (subst (λ t. OnOk r (Adds row t (told_by new))) same (adds (spoken old new alone)))

  pub drops_in : (number : ℕ) (r answer : Result (Unit {0}) KeepFault) → answer ≡ r → (SpeaksOf old new → OnOk r (Drops number (now_told old) (now_told new)))
      → OnOk answer (Drops number before (told_by new))
  unfolding told_by
  drops_in number r answer is drops = subst (λ a. OnOk a (Drops number before (told_by new))) (sym is) (subst (λ t. OnOk r (Drops number t (told_by new))) same (drops (spoken old new alone)))

  pub unchanged_in : (r answer : Result (Unit {0}) KeepFault) → answer ≡ r → (SpeaksOf old new → OnErr r (now_told new ≡ now_told old)) → OnErr answer (told_by new ≡ before)
  unfolding told_by
  unchanged_in r answer is unchanged = subst (λ a. OnErr a (told_by new ≡ before)) (sym is) (subst (λ t. OnErr r (told_by new ≡ t)) same (unchanged (spoken old new alone)))

  pub same_in : (SpeaksOf old new → now_told new ≡ now_told old) → told_by new ≡ before
  unfolding told_by
  same_in tells = tells (spoken old new alone) ∙ same

  pub keeps_in : {T : Type 0} (answer : Result T KeepFault) → (SpeaksOf old new → now_told new ≡ now_told old) → OnOk answer (Keeps before (told_by new))
  keeps_in answer tells = on_ok answer (keeps_by before (told_by new) (same_in tells))

  pub stays_in : {T : Type 0} (answer : Result T KeepFault) → (SpeaksOf old new → now_told new ≡ now_told old) → OnErr answer (told_by new ≡ before)
  stays_in answer tells = on_err answer (same_in tells)

  pub lists_in : (r answer : Result (Vec KeptRow Global) KeepFault) → answer ≡ r → (SpeaksOf old new → now_told new ≡ now_told old)
      → (SpeaksOf old new → IfOk r (λ list. Lists list.items (now_told old))) → IfOk answer (λ list. Lists list.items (told_by new))
  unfolding told_by
  lists_in r answer is tells lists =
      subst (λ a. IfOk a (λ list. Lists list.items (told_by new))) (sym is)
      (subst (λ t. IfOk r (λ list. Lists list.items t)) (sym (tells (spoken old new alone))) (lists (spoken old new alone)))

-- a store that holds nothing tells the empty list
pub told_nothing : (h : Held MemStore) → h.schema ≡ no_schema → told_by h ≡ Some []
unfolding told_by
told_nothing h none = rw none refl
