-- The rows of a keeper after a call, however they are read.
use Rattle.std.proofs.Common.{◌≡◌, List, Option, Some, None, Result, Ok, Err, OnOk, OnErr}
use Rattle.nrm_keeper.specs.declared.keeper.Keeper.{Ghosts}
use Rattle.nrm_keeper.specs.declared.row.KeptRow.{KeptRow}
use Rattle.nrm_keeper.specs.Rows.{Keeps, Lists}
use Rattle.nrm_keeper.specs.File.{Same}
use Rattle.nrm_kept_cli.specs.Inner.Reading.{HoweverRead, on_trust, outright, rows_by}

keeps-by : (before after : Option (List KeptRow)) → after ≡ before → Keeps before after
keeps-by None after same = tt
keeps-by (Some rows) after same = same

module _ {P : Type 0} (keeps : Ghosts P) where
  -- a keeper that was not called
  pub read-idle : (Is : Option (List KeptRow) → Option (List KeptRow) → Type 0) (keeper : P) → ((rows : Option (List KeptRow)) → Is rows rows) → HoweverRead keeps Is keeper keeper
  read-idle Is keeper is how trusted = (trusted, is (rows_by keeps how keeper))

  -- one call after another
  pub read-joined : (Is Then Both : Option (List KeptRow) → Option (List KeptRow) → Type 0) (old mid new : P) → ((a b c : Option (List KeptRow)) → Is a b → Then b c → Both a c)
      → HoweverRead keeps Is old mid → HoweverRead keeps Then mid new → HoweverRead keeps Both old new
  read-joined Is Then Both old mid new both first then how trusted =
      let (trusted_mid, rest) = then how trusted in
      let (trusted_old, is) = first how trusted_mid in
      (trusted_old, both (rows_by keeps how old) (rows_by keeps how mid) (rows_by keeps how new) is rest)

  -- what follows of the rows
  pub read-weaker : (Is Then : Option (List KeptRow) → Option (List KeptRow) → Type 0) (old new : P) → ((a b : Option (List KeptRow)) → Is a b → Then a b)
      → HoweverRead keeps Is old new → HoweverRead keeps Then old new
  read-weaker Is Then old new then reads how trusted = let (trusted_old, is) = reads how trusted in (trusted_old, then (rows_by keeps how old) (rows_by keeps how new) is)

  module _ (old new : P) where
    -- a call of which both are said
    pub either-read : (Is : Option (List KeptRow) → Option (List KeptRow) → Type 0) → Is (keeps.rows old) (keeps.rows new)
        → (keeps.trusted new → keeps.trusted old × Is (keeps.shown old) (keeps.shown new)) → HoweverRead keeps Is old new
    either-read Is told shows outright trusted = (tt, told)
    either-read Is told shows on_trust trusted = shows trusted

    -- a change that was done
    pub changed-read : {T E : Type 0} (Does Is : Option (List KeptRow) → Option (List KeptRow) → Type 0) (r : Result T E) → ((a b : Option (List KeptRow)) → Does a b → Is a b)
        → OnOk r (Does (keeps.rows old) (keeps.rows new))
        → (keeps.trusted new → keeps.trusted old × OnOk r (Does (keeps.shown old) (keeps.shown new)) × OnErr r (keeps.shown new ≡ keeps.shown old))
        → OnOk r (HoweverRead keeps Is old new)
    changed-read Does Is (Err e) then told shows = tt
    changed-read Does Is (Ok x) then told shows =
        either-read Is (then (keeps.rows old) (keeps.rows new) told) (λ trusted. let s = shows trusted in (s.0, then (keeps.shown old) (keeps.shown new) s.1))

    -- a listing
    pub listed-read : (list : List KeptRow) → Lists list (keeps.rows new) → Keeps (keeps.rows old) (keeps.rows new)
        → (keeps.trusted new → keeps.trusted old × (keeps.shown new ≡ keeps.shown old) × Lists list (keeps.shown new))
        → HoweverRead keeps (λ before after. Keeps before after × Lists list after) old new
    listed-read list lists stays shows =
        either-read (λ before after. Keeps before after × Lists list after) (stays, lists)
        (λ trusted. let s = shows trusted in (s.0, (keeps-by (keeps.shown old) (keeps.shown new) s.1, s.2)))

    pub unlisted-read : (Shows : Type 0) → keeps.rows new ≡ keeps.rows old → (keeps.trusted new → keeps.trusted old × (keeps.shown new ≡ keeps.shown old) × Shows)
        → HoweverRead keeps Same old new
    unlisted-read Shows told shows = either-read Same told (λ trusted. let s = shows trusted in (s.0, s.1))
