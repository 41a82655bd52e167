-- Rows, faults and answers, and what a file shows, by hand.
use Rattle.std.proofs.Common.{◌≡◌, ◌<◌, [], ◌∷◌, true, false, pos, negsuc, refl, ap, inl, inr, arith}
use Rattle.std.proofs.lemmas.List.Elements.{All-cons}
use Rattle.std.specs.Prelude.{ℕ, ◌^◌, ◌-◌, Bool, List, Option, Some, None, IsSome, IsTrue, Ok, Err, codes}
use Rattle.sqlite_trees.specs.declared.store.Store.{Ghosts}
use Rattle.sqlite_value.specs.declared.value.Value.TheVariants.{Null, Int, Text, Blob}
use Rattle.sqlite.specs.declared.error.Error.TheVariants.{SqliteFailure, QueryReturnedNoRows}
use Rattle.sqlite.specs.declared.error.ErrorCode.TheVariants as code
use Rattle.sqlite.specs.Held.{Held, state}
use Rattle.nrm_keeper.specs.declared.row.Doubt.{Doubt}
use Rattle.nrm_keeper.specs.declared.row.KeptRow.{KeptRow}
use Rattle.nrm_keeper.specs.declared.row.KeepFault.TheVariants.{Failed, NoMemory}
use Rattle.nrm_keeper.specs.Inner.Faults.{fault_of, added_by, dropped_by}
use Rattle.nrm_keeper.specs.Memory.{HeldRows, fails_next, after_call}
use Rattle.nrm_keeper.specs.Rows.{rise, told_if_rising, is_kept, without, has_failed}
use Rattle.nrm_keeper.specs.File.{Seen, FileRows, seen, file_view, IsTrusted, shown_in, Same, Done, Failed as FailedCall, ListsIn}
use Rattle.nrm_keeper.specs.Steady.{IsSteady}
use Rattle.nrm_keeper.specs.Stored.{kept_of, kept_row, kept_rows, told as told_by_store}
use Rattle.nrm_keeper.specs.Inner.Table.{stored}
use Rattle.nrm_keeper.specs.Undoing.{IsInDoubt, IsOfRows, Undoes}
use Rattle.nrm_keeper.proofs.FileLemmas.{steadied, unsteadied}
use Rattle.nrm_keeper.proofs.StoredLemmas.{same_some}

-- ---- rows

abbrev row : ℕ → KeptRow
row number = record { number = number; product = codes "THRU"; party = 2 }

rises : rise (row 1 ∷ row 2 ∷ row 9 ∷ []) ≡ true
rises = refl

one_number_twice : rise (row 1 ∷ row 2 ∷ row 2 ∷ []) ≡ false
one_number_twice = refl

falls_at_the_end : rise (row 1 ∷ row 3 ∷ row 2 ∷ []) ≡ false
falls_at_the_end = refl

told : told_if_rising (row 1 ∷ row 2 ∷ []) ≡ Some (row 1 ∷ row 2 ∷ [])
told = refl

told_empty : told_if_rising [] ≡ Some []
told_empty = refl

not_told : told_if_rising (row 2 ∷ row 1 ∷ []) ≡ None
not_told = refl

kept : is_kept 2 (row 1 ∷ row 2 ∷ []) ≡ true
kept = refl

not_kept : is_kept 3 (row 1 ∷ row 2 ∷ []) ≡ false
not_kept = refl

-- the rows before and behind it stay, in their order
without_two : without 2 (row 1 ∷ row 2 ∷ row 3 ∷ []) ≡ row 1 ∷ row 3 ∷ []
without_two = refl

without_none : without 4 (row 1 ∷ row 2 ∷ row 3 ∷ []) ≡ row 1 ∷ row 2 ∷ row 3 ∷ []
without_none = refl

-- ---- values of the table

protected_from : kept_of (Int (pos 7)) (Text (codes "THRU")) (Int (pos 2)) ≡ Some (row 7)
protected_from = refl

-- number -1
negative_number : kept_of (Int (negsuc 0)) (Text (codes "THRU")) (Int (pos 2)) ≡ None
negative_number = refl

number_nought : kept_of (Int (pos 0)) (Text (codes "THRU")) (Int (pos 2)) ≡ Some (row 0)
number_nought = refl

greatest_party : kept_of (Int (pos 7)) (Text (codes "THRU")) (Int (pos 65535)) ≡ Some (record { number = 7; product = codes "THRU"; party = 65535 })
greatest_party = refl

party_too_large : kept_of (Int (pos 7)) (Text (codes "THRU")) (Int (pos 65536)) ≡ None
party_too_large = refl

negative_party : kept_of (Int (pos 7)) (Text (codes "THRU")) (Int (negsuc 0)) ≡ None
negative_party = refl

product_in_lower_case : kept_of (Int (pos 7)) (Text (codes "thru")) (Int (pos 2)) ≡ None
product_in_lower_case = refl

product_is_bytes : kept_of (Int (pos 7)) (Blob (codes "THRU")) (Int (pos 2)) ≡ None
product_is_bytes = refl

no_party : kept_of (Int (pos 7)) (Text (codes "THRU")) Null ≡ None
no_party = refl

-- a row of the table has the number, NULL for the key, the product and the party
kept_back : kept_row (stored (row 7)) ≡ Some (row 7)
kept_back = refl

key_is_not_null : kept_row (Int (pos 7) ∷ Int (pos 7) ∷ Text (codes "THRU") ∷ Int (pos 2) ∷ []) ≡ None
key_is_not_null = refl

one_is_no_kept_row : kept_rows (stored (row 1) ∷ [] ∷ stored (row 3) ∷ []) ≡ None
one_is_no_kept_row = refl

-- ---- faults

memory_ran_out : fault_of (SqliteFailure code.OutOfMemory) ≡ NoMemory
memory_ran_out = refl

disk_full : fault_of (SqliteFailure code.DiskFull) ≡ Failed
disk_full = refl

cannot_open : fault_of (SqliteFailure code.CannotOpen) ≡ Failed
cannot_open = refl

no_rows : fault_of QueryReturnedNoRows ≡ Failed
no_rows = refl

added : added_by (Ok 1) ≡ Ok tt
added = refl

not_added : added_by (Err (SqliteFailure code.OutOfMemory)) ≡ Err NoMemory
not_added = refl

dropped : dropped_by (Ok 1) ≡ Ok tt
dropped = refl

nothing_dropped : dropped_by (Ok 0) ≡ Err Failed
nothing_dropped = refl

not_dropped : dropped_by (Err (SqliteFailure code.DiskFull)) ≡ Err Failed
not_dropped = refl

ok_is_no_failure : has_failed {T = ℕ} (Ok 3) ≡ false
ok_is_no_failure = refl

failed_is_a_failure : has_failed {T = ℕ} (Err Failed) ≡ true
failed_is_a_failure = refl

no_memory_is_no_failure : has_failed {T = ℕ} (Err NoMemory) ≡ false
no_memory_is_no_failure = refl

-- ---- calls in memory

-- a keeper whose calls of these numbers fail, after so many calls and faults
abbrev after : List ℕ → ℕ → ℕ → HeldRows
after failing calls faults = record { rows = row 1 ∷ []; failing = failing; calls = calls; faults = faults }

third_fails : fails_next (after (3 ∷ []) 2 0) ≡ true
third_fails = refl

second_is_done : fails_next (after (3 ∷ []) 1 0) ≡ false
second_is_done = refl

after_done : after_call (after (3 ∷ []) 1 0) ≡ after (3 ∷ []) 2 0
after_done = refl

after_failed : after_call (after (3 ∷ []) 2 0) ≡ after (3 ∷ []) 3 1
after_failed = refl

-- no count rises above the last value of u64
fails_at_the_last : fails_next (after ((2 ^ 64 - 1) ∷ []) (2 ^ 64 - 1) 0) ≡ true
fails_at_the_last = refl

counts_stay_at_the_last : after_call (after ((2 ^ 64 - 1) ∷ []) (2 ^ 64 - 1) (2 ^ 64 - 1)) ≡ after ((2 ^ 64 - 1) ∷ []) (2 ^ 64 - 1) (2 ^ 64 - 1)
counts_stay_at_the_last = refl

-- ---- what a file shows

-- a file that was not opened yet, one that is open and tells these rows, clean and open or not, and one that was let go
abbrev unopened : FileRows
unopened = record { file = None; is_lost = false; is_open = false; doubt = None; faults = 0 }

abbrev telling : Bool → Option (List KeptRow) → Seen
telling steady rows = record { is_steady = steady; rows = rows }

abbrev opened : Bool → List KeptRow → FileRows
opened steady rows = record { file = Some (telling steady (Some rows)); is_lost = false; is_open = true; doubt = None; faults = 0 }

abbrev let_go : FileRows
let_go = record { file = None; is_lost = true; is_open = false; doubt = None; faults = 1 }

unopened_is_trusted : IsTrusted unopened
unopened_is_trusted = record { found = refl; steady = tt }

open_is_trusted : IsTrusted (opened true [])
open_is_trusted = record { found = refl; steady = refl }

unsteady_is_not_trusted : IsTrusted (opened false []) → ⊥
unsteady_is_not_trusted trusted = let steady : false ≡ true = trusted.steady in cc

let_go_is_not_trusted : IsTrusted let_go → ⊥
let_go_is_not_trusted trusted = let found : true ≡ false = trusted.found in cc

-- before it is opened it shows the rows that are assumed, and then those that it tells
unopened_shows : shown_in (Some (row 1 ∷ [])) unopened ≡ Some (row 1 ∷ [])
unopened_shows = refl

unopened_and_empty : shown_in (Some []) unopened ≡ Some []
unopened_and_empty = refl

open_shows : shown_in None (opened true []) ≡ Some []
open_shows = refl

open_shows_its_own : shown_in (Some (row 1 ∷ [])) (opened true (row 2 ∷ [])) ≡ Some (row 2 ∷ [])
open_shows_its_own = refl

listed : ListsIn (row 1 ∷ []) (Some (telling true (Some (row 1 ∷ []))))
listed steady = refl

not_all_listed : ListsIn [] (Some (telling true (Some (row 1 ∷ [])))) → ⊥
not_all_listed lists = let same : [] ≡ row 1 ∷ [] = lists refl in cc

-- a call that was done leaves the file open, and lets none go
done_but_not_open : Done (Some []) Same unopened unopened → ⊥
done_but_not_open done = let there : IsSome unopened.file = done.there refl in cc

done_but_let_go : Done (Some []) Same (opened true []) let_go → ⊥
done_but_let_go done = let lost : true ≡ false = done.lost in cc

-- what is clean now was clean before, and the file that is opened tells the rows that are assumed
clean_again : Done (Some []) Same (opened false []) (opened true []) → ⊥
clean_again done = let before : false ≡ true = (done.rows refl).0 in cc

opened_with_other_rows : Done (Some []) Same unopened (opened true (row 1 ∷ [])) → ⊥
opened_with_other_rows done = let same : Some (row 1 ∷ []) ≡ Some [] = done.rows refl in cc

-- a call that failed changes no row, shuts no file but by letting it go, and what was let go stays so
failed_with_a_row_more : FailedCall (Some []) (opened true []) (opened true (row 1 ∷ [])) → ⊥
failed_with_a_row_more failed = let same : Some (row 1 ∷ []) ≡ Some [] = (failed.rows refl refl).1 in cc

failed_and_shut : FailedCall (Some []) (opened true []) unopened → ⊥
failed_and_shut failed = failed.rows refl

failed_and_back : FailedCall (Some []) let_go unopened → ⊥
failed_and_back failed = let lost : false ≡ true = failed.lost refl in cc

-- A connection that is clean and open is seen so, with the rows that it tells, and no other is. None is seen before an opening, nor once the
-- file was let go.
seen_if_steady : (S : Type 0) (g : Ghosts S) (h : Held S) → IsSteady (state g h) → seen g h ≡ telling true (told_by_store (state g h).now)
unfolding seen
seen_if_steady S g h steady = ap (λ (is : Bool). telling is (told_by_store (state g h).now)) (unsteadied (Some []) g h steady)

steady_if_seen : (S : Type 0) (g : Ghosts S) (h : Held S) → IsTrue (seen g h).is_steady → IsSteady (state g h)
steady_if_seen S g h is = steadied (Some []) g h is

seen_in_view : (S : Type 0) (g : Ghosts S) (h : Held S) → file_view g (Some h) false None 3
    ≡ record { file = Some (seen g h); is_lost = false; is_open = true; doubt = None; faults = 3 }
seen_in_view S g h = refl

none_in_view : (S : Type 0) (g : Ghosts S) → file_view g None false None 3 ≡ record { file = None; is_lost = false; is_open = false; doubt = None; faults = 3 }
none_in_view S g = refl

let_go_in_view : (S : Type 0) (g : Ghosts S) (h : Held S) → file_view g (Some h) true None 3 ≡ record { file = None; is_lost = true; is_open = true; doubt = None; faults = 3 }
let_go_in_view S g h = refl

-- ---- what becomes of a change that is in doubt

abbrev drop_of : ℕ → Doubt
drop_of number = record { row = row number; was_kept = true }

abbrev add_of : ℕ → Doubt
add_of number = record { row = row number; was_kept = false }

-- a row that was to be dropped is added again, unless it is there
put_back : (after : Option (List KeptRow)) → Undoes (Some (drop_of 2)) (Some (row 1 ∷ [])) after → after ≡ Some (row 1 ∷ row 2 ∷ [])
put_back after undone = undone (All-cons (λ (kept : KeptRow). kept.number < 2) (row 1) [] (omega arith) (λ k d short. absurd (omega (arith, short))))

still_there : (after : Option (List KeptRow)) → Undoes (Some (drop_of 2)) (Some (row 1 ∷ row 2 ∷ [])) after → after ≡ Some (row 1 ∷ row 2 ∷ [])
still_there after undone = undone

-- a row that was to be added is dropped if it is there just so
taken_out : (after : Option (List KeptRow)) → Undoes (Some (add_of 2)) (Some (row 1 ∷ row 2 ∷ [])) after → after ≡ Some (row 1 ∷ [])
taken_out after undone = undone.0 refl refl

another_stays : (after : Option (List KeptRow)) → Undoes (Some (add_of 2)) (Some (record (row 2) { party = 1 } ∷ [])) after → after ≡ Some (record (row 2) { party = 1 } ∷ [])
another_stays after undone = undone.1 (λ same. let party : 1 ≡ 2 = ap (λ (r : KeptRow). r.party) same in absurd (omega (arith, party)))

not_there : (after : Option (List KeptRow)) → Undoes (Some (add_of 2)) (Some (row 1 ∷ [])) after → after ≡ Some (row 1 ∷ [])
not_there after undone = undone

none_in_doubt : (after : Option (List KeptRow)) → Undoes None (Some (row 1 ∷ [])) after → after ≡ Some (row 1 ∷ [])
none_in_doubt after undone = undone

-- the row that was to be dropped is the one that was kept
another_party : IsOfRows (record { row = record (row 2) { party = 1 }; was_kept = true }) (Some (row 1 ∷ row 2 ∷ [])) → ⊥
another_party is = let party : 2 ≡ 1 = ap (λ (r : KeptRow). r.party) (same_some (is refl)) in absurd (omega (arith, party))

-- a change that failed isn't forgotten where the file was let go
forgotten : IsInDoubt (drop_of 2) let_go → ⊥
forgotten (inl same) = let none : None ≡ Some (drop_of 2) = same in absurd (cc)
forgotten (inr (none, live)) = let shut : false ≡ true = live in absurd (cc)
