-- What a call on a connection to a file says of the keeper's view.
use Rattle.std.proofs.Common.{◌≡◌, ◌&&◌, ℕ, List, Bool, true, false, Option, Some, None, Ok, Err, Result, OnOk, OnErr, IfOk, IsTrue, option_map, ◌==◌, [], ◌∷◌, inl, inr, refl, sym, ap, subst, ◌∙◌}
use Rattle.std.specs.Prelude.{Vec, IsSome}
use Rattle.std.specs.declared.alloc.Global.{Global}
use Rattle.std.proofs.lemmas.Bool.{cases_Bool, eqb-true}
use Rattle.sqlite_trees.specs.declared.store.Store.{Ghosts}
use Rattle.sqlite_trees.proofs.Doubt.{clean_of, no_doubt}
use Rattle.sqlite.specs.Held.{Held, state}
use Rattle.nrm_keeper.specs.declared.row.Doubt.{Doubt}
use Rattle.nrm_keeper.specs.declared.row.KeptRow.{KeptRow}
use Rattle.nrm_keeper.specs.declared.row.KeepFault.{KeepFault}
use Rattle.nrm_keeper.specs.Rows.{Finds, Lists, numbered}
use Rattle.nrm_keeper.specs.Stored.{told}
use Rattle.nrm_keeper.specs.File.{Seen, FileRows, seen, file_view, rows_in, shown_in, IsSteadyIfOpen, IsTrusted, Across, Same, Done, Failed, ListsIn}
use Rattle.nrm_keeper.specs.Steady.{IsSteady}
use Rattle.nrm_keeper.specs.Passes.{Passes, TellsRows}
use Rattle.nrm_keeper.specs.Undoing.{IsOfRows, IsOfRowsIn, Undoes, UndoesFound}
use Rattle.nrm_keeper.proofs.StoredLemmas.{same_some}

both : (a b : Bool) → IsTrue (a && b) → IsTrue a × IsTrue b
both true true h = (refl, refl)
both true false h = absurd (cc)
both false b h = absurd (cc)

and_back : (a b : Bool) → IsTrue a → IsTrue b → IsTrue (a && b)
and_back true true h k = refl
and_back true false h k = absurd (cc)
and_back false b h k = absurd (cc)

-- ---- rows of a number

found_number : (number : ℕ) (rows : List KeptRow) (row : KeptRow) → numbered number rows ≡ Some row → row.number ≡ number
found_number number [] row h = absurd (cc)
found_number number (r ∷ rows) row h = elim (cases_Bool (r.number == number)) [
  | inl same ↦ (let is : r ≡ row = same_some (rw same at h) in ap (λ (k : KeptRow). k.number) (sym is) ∙ eqb-true r.number number same)
  | inr other ↦ found_number number rows row (rw other at h)
]

of_rows : (number : ℕ) (row : KeptRow) (before after : Option (List KeptRow)) → Finds number (Some row) before → after ≡ before
    → IsOfRows (record { row = record row { number = number }; was_kept = true }) after
of_rows number row None after finds same = subst (λ (r : Option (List KeptRow)). IsOfRows (record { row = record row { number = number }; was_kept = true }) r) (sym same) tt
of_rows number row (Some rows) after finds same =
    let is : row.number ≡ number = found_number number rows row (sym finds) in
    subst (λ (r : Option (List KeptRow)). IsOfRows (record { row = record row { number = number }; was_kept = true }) r) (sym same)
    (λ kept. sym finds ∙ (λ n. Some (record row { number = is n })))

undoes_found : (change : Doubt) (found : Option KeptRow) (before mid after : Option (List KeptRow)) → mid ≡ before → Finds change.row.number found before
    → UndoesFound change.was_kept change.row found mid after → Undoes (Some change) before after
undoes_found change found None mid after same finds undone = tt
undoes_found change found (Some rows) mid after same finds undone =
    subst (λ (f : Option KeptRow). UndoesFound change.was_kept change.row f (Some rows) after) finds
    (subst (λ (r : Option (List KeptRow)). UndoesFound change.was_kept change.row found r after) same undone)

-- over a file that held these rows as it was first opened
module _ (at_first : Option (List KeptRow)) where
  -- the file as it is taken to be, before and after
  pub shown_across : (P : Option (List KeptRow) → Option (List KeptRow) → Type 0) (old new : Option Seen) → IsSome new → Across at_first P old new → IsSteadyIfOpen new
      → IsSteadyIfOpen old × P (rows_in at_first old) (rows_in at_first new)
  shown_across P old None there h steady = absurd (cc)
  shown_across P None (Some new) there h steady = (tt, h steady)
  shown_across P (Some old) (Some new) there h steady = h steady

  pub same_across : (old new : Option Seen) → Across at_first Same old new → IsSteadyIfOpen new → IsSteadyIfOpen old × Same (rows_in at_first old) (rows_in at_first new)
  same_across None None h steady = (tt, refl)
  same_across (Some old) None h steady = absurd h
  same_across None (Some new) h steady = (tt, h steady)
  same_across (Some old) (Some new) h steady = h steady

  -- of a call that was done
  pub shown_done : (P : Option (List KeptRow) → Option (List KeptRow) → Type 0) (old new : FileRows) → Done at_first P old new → IsTrusted new → IsTrusted old × P (shown_in at_first old) (shown_in at_first new)
  shown_done P old new d it = let s = shown_across P old.file new.file (d.there it.found) d.rows it.steady in (record { found = sym d.lost ∙ it.found; steady = s.0 }, s.1)

  found_before : (old new : Bool) → (old ≡ true → new ≡ true) → new ≡ false → old ≡ false
  found_before true new h found = absurd (let t = h refl in cc)
  found_before false new h found = refl

  -- and of one that failed
  pub shown_failed : (old new : FileRows) → Failed at_first old new → IsTrusted new → IsTrusted old × Same (shown_in at_first old) (shown_in at_first new)
  shown_failed old new f it =
      let s = same_across old.file new.file (f.rows it.found) it.steady in (record { found = found_before old.is_lost new.is_lost f.lost it.found; steady = s.0 }, s.1)

  -- a call that changes rows, by its answer
  pub shown_change : (P : Option (List KeptRow) → Option (List KeptRow) → Type 0) (old new : FileRows) (r : Result (Unit {0}) KeepFault) → OnOk r (Done at_first P old new) → OnErr r (Failed at_first old new)
      → IsTrusted new → IsTrusted old × OnOk r (P (shown_in at_first old) (shown_in at_first new)) × OnErr r (shown_in at_first new ≡ shown_in at_first old)
  shown_change P old new (Ok x) d f it = let s = shown_done P old new d it in (s.0, s.1, tt)
  shown_change P old new (Err e) d f it = let s = shown_failed old new f it in (s.0, tt, s.1)

  -- and one that lists them
  pub shown_list : (old new : FileRows) (r : Result (Vec KeptRow Global) KeepFault) → IfOk r (λ list. Done at_first (λ before after. Same before after × Lists list.items before) old new)
      → OnErr r (Failed at_first old new) → IsTrusted new → IsTrusted old × (shown_in at_first new ≡ shown_in at_first old) × IfOk r (λ list. Lists list.items (shown_in at_first new))
  shown_list old new (Ok list) d f it =
      let s = shown_done (λ before after. Same before after × Lists list.items before) old new d it in
      (s.0, s.1.0, subst (λ (r : Option (List KeptRow)). Lists list.items r) (sym s.1.0) s.1.1)
  shown_list old new (Err e) d f it = let s = shown_failed old new f it in (s.0, s.1, tt)

  -- a call after which the file is lost
  pub lost_failed : (old new : FileRows) → new.is_lost ≡ true → Failed at_first old new
  lost_failed old new lost = record { lost = λ was. lost; rows = λ found. absurd (let l = lost in cc) }

  pub answer_failed : {T : Type 0} (old new : FileRows) (r : Result T KeepFault) → OnErr r (new.is_lost ≡ true) → OnErr r (Failed at_first old new)
  answer_failed old new (Ok x) lost = tt
  answer_failed old new (Err e) lost = lost_failed old new lost

  -- of three views, the rows of the first two being the same
  pub compose : (P : Option (List KeptRow) → Option (List KeptRow) → Type 0) (a b c : Option Seen) → Across at_first Same a b → Across at_first P b c → Across at_first P a c
  compose P None None c h k = k
  compose P None (Some b) None h k = tt
  compose P None (Some b) (Some c) h k = λ steady. let s = k steady in subst (λ (r : Option (List KeptRow)). P r c.rows) (h s.0) s.1
  compose P (Some a) None c h k = absurd h
  compose P (Some a) (Some b) None h k = k
  compose P (Some a) (Some b) (Some c) h k = λ steady. let s = k steady in let t = h s.0 in (t.0, subst (λ (r : Option (List KeptRow)). P r c.rows) t.1 s.1)

  module _ {S : Type 0} (g : Ghosts S) where
    pub steadied : (h : Held S) → IsTrue (seen g h).is_steady → IsSteady (state g h)
    unfolding seen
    steadied h is = let b = both (state g h).is_clean (state g h).is_open is in record { clean = no_doubt (state g h).is_clean b.0; live = b.1 }

    pub unsteadied : (h : Held S) → IsSteady (state g h) → IsTrue (seen g h).is_steady
    unfolding seen
    unsteadied h is = and_back (state g h).is_clean (state g h).is_open (clean_of (state g h).is_clean is.clean) is.live

    -- two connections, the rows of the first two being the same
    pub passes_on : (P : Option (List KeptRow) → Option (List KeptRow) → Type 0) (a b c : Option (Held S)) → Passes g Same a b → Passes g P b c → Passes g P a c
    passes_on P None None c h k = k
    passes_on P None (Some b) c h k = absurd (cc)
    passes_on P (Some a) None c h k = absurd h
    passes_on P (Some a) (Some b) None h k = k
    passes_on P (Some a) (Some b) (Some c) h k = λ steady. let s = k steady in let t = h s.0 in (t.0, subst (λ (r : Option (List KeptRow)). P r (told (state g c).now)) t.1 s.1)

    seen_passes : (P : Option (List KeptRow) → Option (List KeptRow) → Type 0) (o n : Held S) → Passes g P (Some o) (Some n) → Across at_first P (Some (seen g o)) (Some (seen g n))
    unfolding seen
    seen_passes P o n h = λ steady. let s = h (steadied n steady) in (unsteadied o s.0, s.1)

    across : (P : Option (List KeptRow) → Option (List KeptRow) → Type 0) (lost : Bool) (old new : Option (Held S)) (u u' : Option Doubt) (f f' : ℕ) → Passes g P old new
        → Across at_first P (file_view g old lost u f).file (file_view g new lost u' f').file
    across P true old new u u' f f' h = tt
    across P false None None u u' f f' h = tt
    across P false None (Some n) u u' f f' h = absurd (cc)
    across P false (Some o) None u u' f f' h = h
    across P false (Some o) (Some n) u u' f f' h = seen_passes P o n h

    pub across_from : (P : Option (List KeptRow) → Option (List KeptRow) → Type 0) (lost : Bool) (old new : Option (Held S)) (u u' : Option Doubt) (f f' : ℕ) (before : FileRows)
        → file_view g old lost u f ≡ before → Passes g P old new → Across at_first P before.file (file_view g new lost u' f').file
    across_from P lost old new u u' f f' before is h = subst (λ (v : FileRows). Across at_first P v.file (file_view g new lost u' f').file) is (across P lost old new u u' f f' h)

    there_in : (lost : Bool) (new : Option (Held S)) (u : Option Doubt) (f : ℕ) → lost ≡ false → IsSome new → IsSome (file_view g new lost u f).file
    there_in true new u f was some = absurd (cc)
    there_in false None u f was some = absurd (cc)
    there_in false (Some n) u f was some = refl

    -- of a file that was shut and is opened
    across_opened : (new : Option (Held S)) → TellsRows g at_first new → Across at_first Same None (option_map (seen g) new)
    unfolding seen
    across_opened None h = tt
    across_opened (Some n) h = λ steady. h (steadied n steady)

    -- a file that is open after the connection was opened if it was shut, and then undid what was in doubt, if anything was
    pub settled_by : (lost : Bool) (old mid new : Option (Held S)) (u u' : Option Doubt) (f f' : ℕ) (before : FileRows) → file_view g old lost u f ≡ before → (IsSome old → mid ≡ old) → (old ≡ None → TellsRows g at_first mid)
        → IsSome mid → (lost ≡ false → new ≡ mid) → Done at_first Same before (file_view g new lost u' f')
    settled_by true old mid new u u' f f' before is stays empty there same = record {
      lost = ap (λ (v : FileRows). v.is_lost) is;
      there = λ was. absurd (let w = was in cc);
      rows = subst (λ (v : FileRows). Across at_first Same v.file None) is tt;
    }
    settled_by false (Some o) mid new u u' f f' before is stays empty there same = record {
      lost = ap (λ (v : FileRows). v.is_lost) is;
      there = λ was. there_in false new u' f' refl (subst (λ (m : Option (Held S)). IsSome m) (sym (same refl)) there);
      rows = subst (λ (v : FileRows). Across at_first Same v.file (option_map (seen g) new)) is
          (subst (λ (m : Option (Held S)). Across at_first Same (Some (seen g o)) (option_map (seen g) m)) (sym (same refl ∙ stays refl)) (λ steady. (steady, refl)));
    }
    settled_by false None mid new u u' f f' before is stays empty there same = record {
      lost = ap (λ (v : FileRows). v.is_lost) is;
      there = λ was. there_in false new u' f' refl (subst (λ (m : Option (Held S)). IsSome m) (sym (same refl)) there);
      rows = subst (λ (v : FileRows). Across at_first Same v.file (option_map (seen g) new)) is (across_opened new (subst (λ (m : Option (Held S)). TellsRows g at_first m) (sym (same refl)) (empty refl)));
    }

    pub done_by : (P : Option (List KeptRow) → Option (List KeptRow) → Type 0) (first mid last : FileRows) (lost : Bool) (u u' : Option Doubt) (f f' : ℕ) (old new : Option (Held S)) → Done at_first Same first mid
        → file_view g old lost u f ≡ mid → IsSome new → Passes g P old new → last.file ≡ (file_view g new lost u' f').file → last.is_lost ≡ lost → Done at_first P first last
    done_by P first mid last lost u u' f f' old new d is some h file lose = record {
      lost = lose ∙ ap (λ (v : FileRows). v.is_lost) is ∙ d.lost;
      there = λ was. subst (λ (o : Option Seen). IsSome o) (sym file) (there_in lost new u' f' (sym lose ∙ was) some);
      rows = subst (λ (o : Option Seen). Across at_first P first.file o) (sym file) (compose P first.file mid.file (file_view g new lost u' f').file d.rows (across_from P lost old new u u' f f' mid is h));
    }

    -- a change that was done
    pub done_after : (P : Option (List KeptRow) → Option (List KeptRow) → Type 0) (first mid last : FileRows) (lost : Bool) (u u' : Option Doubt) (f f' : ℕ) (old new : Option (Held S)) (r answer : Result (Unit {0}) KeepFault)
        → Done at_first Same first mid → file_view g old lost u f ≡ mid → OnOk r (IsSome new) → OnOk r (Passes g P old new)
        → answer ≡ r → OnOk answer (last.file ≡ (file_view g new lost u' f').file) → OnOk answer (last.is_lost ≡ lost) → OnOk answer (Done at_first P first last)
    done_after P first mid last lost u u' f f' old new r (Err e) d is some h same file lose = tt
    done_after P first mid last lost u u' f f' old new r (Ok x) d is some h same file lose =
        done_by P first mid last lost u u' f f' old new d is (rw (sym same) at some) (rw (sym same) at h) file lose

    -- and one that failed
    pub failed_after : (first mid last : FileRows) (lost : Bool) (u u' : Option Doubt) (f f' : ℕ) (old new : Option (Held S)) (r answer : Result (Unit {0}) KeepFault)
        → Done at_first Same first mid → file_view g old lost u f ≡ mid → OnErr r (Passes g Same old new)
        → answer ≡ r → OnErr answer (Failed at_first (file_view g new lost u' f') last) → OnErr answer (Failed at_first first last)
    failed_after first mid last lost u u' f f' old new r (Ok x) d is h same failed = tt
    failed_after first mid last lost u u' f f' old new r (Err e) d is h same failed = record {
      lost = λ was. failed.lost (ap (λ (v : FileRows). v.is_lost) is ∙ d.lost ∙ was);
      rows = λ was. compose Same first.file (file_view g new lost u' f').file last.file
          (compose Same first.file mid.file (file_view g new lost u' f').file d.rows (across_from Same lost old new u u' f f' mid is (rw (sym same) at h))) (failed.rows was);
    }

    -- and one of which the connection can still tell
    pub failed_from : (lost : Bool) (old new : Option (Held S)) (u u' : Option Doubt) (f f' : ℕ) (before : FileRows) → file_view g old lost u f ≡ before → Passes g Same old new
        → Failed at_first before (file_view g new lost u' f')
    failed_from lost old new u u' f f' before is h = record {
      lost = λ was. ap (λ (v : FileRows). v.is_lost) is ∙ was;
      rows = λ kept. across_from Same lost old new u u' f f' before is h;
    }

    -- ---- what is in doubt

    -- a change is undone by what was found at its number
    pub undone_by : (change : Doubt) (found : Option KeptRow) (a b c : Option (Held S)) → Passes g (λ before after. Same before after × Finds change.row.number found before) a b
        → Passes g (UndoesFound change.was_kept change.row found) b c → Passes g (Undoes (Some change)) a c
    undone_by change found None None c h k = k
    undone_by change found None (Some b) c h k = absurd (cc)
    undone_by change found (Some a) None c h k = absurd h
    undone_by change found (Some a) (Some b) None h k = k
    undone_by change found (Some a) (Some b) (Some c) h k = λ steady. let s = k steady in let t = h s.0 in (t.0, undoes_found change found (told (state g a).now) (told (state g b).now) (told (state g c).now) t.1.0 t.1.1 s.1)

    -- a row that was found and could not be dropped is still the row of its number
    pub was_found : (number : ℕ) (row : KeptRow) (lost : Bool) (a b c : Option (Held S)) (u : Option Doubt) (f : ℕ) (r : Result (Unit {0}) KeepFault)
        → Passes g (λ before after. Same before after × Finds number (Some row) before) a b → OnErr r (Passes g Same b c)
        → OnErr r (IsOfRowsIn (record { row = record row { number = number }; was_kept = true }) (file_view g c lost u f).file)
    unfolding seen
    was_found number row lost a b c u f (Ok x) h k = tt
    was_found number row true a b c u f (Err e) h k = tt
    was_found number row false a b None u f (Err e) h k = tt
    was_found number row false None None (Some c) u f (Err e) h k = absurd (cc)
    was_found number row false None (Some b) (Some c) u f (Err e) h k = absurd (cc)
    was_found number row false (Some a) None (Some c) u f (Err e) h k = absurd h
    was_found number row false (Some a) (Some b) (Some c) u f (Err e) h k =
        λ steady. let s = k (steadied c steady) in let t = h s.0 in of_rows number row (told (state g a).now) (told (state g c).now) t.1.1 (s.1 ∙ t.1.0)

    -- a list
    pub listed_after : (first mid last : FileRows) (lost : Bool) (u u' : Option Doubt) (f f' : ℕ) (old new : Option (Held S)) (r answer : Result (Vec KeptRow Global) KeepFault)
        → Done at_first Same first mid → file_view g old lost u f ≡ mid → OnOk r (IsSome new) → IfOk r (λ rows. Passes g (λ before after. Same before after × Lists rows.items before) old new)
        → answer ≡ r → OnOk answer (last.file ≡ (file_view g new lost u' f').file) → OnOk answer (last.is_lost ≡ lost)
        → IfOk answer (λ list. Done at_first (λ before after. Same before after × Lists list.items before) first last)
    listed_after first mid last lost u u' f f' old new r (Err e) d is some h same file lose = tt
    listed_after first mid last lost u u' f f' old new r (Ok list) d is some h same file lose =
        done_by (λ before after. Same before after × Lists list.items before) first mid last lost u u' f f' old new d is (rw (sym same) at some) (rw (sym same) at h) file lose

    tells_in : (list : List KeptRow) (lost : Bool) (old new : Option (Held S)) (u : Option Doubt) (f : ℕ) → Passes g (λ before after. Same before after × Lists list before) old new
        → ListsIn list (file_view g new lost u f).file
    unfolding seen
    tells_in list true old new u f h = tt
    tells_in list false old None u f h = tt
    tells_in list false None (Some n) u f h = absurd (cc)
    tells_in list false (Some o) (Some n) u f h = λ steady. let s = h (steadied n steady) in subst (λ (r : Option (List KeptRow)). Lists list r) (sym s.1.0) s.1.1

    pub told_after : (last : FileRows) (lost : Bool) (u : Option Doubt) (f : ℕ) (old new : Option (Held S)) (r answer : Result (Vec KeptRow Global) KeepFault)
        → IfOk r (λ rows. Passes g (λ before after. Same before after × Lists rows.items before) old new)
        → answer ≡ r → OnOk answer (last.file ≡ (file_view g new lost u f).file) → IfOk answer (λ list. ListsIn list.items last.file)
    told_after last lost u f old new r (Err e) h same file = tt
    told_after last lost u f old new r (Ok list) h same file = subst (λ (o : Option Seen). ListsIn list.items o) (sym file) (tells_in list.items lost old new u f (rw (sym same) at h))
