-- Kept rows, and what a call of a keeper does to them.
use Rattle.std.specs.Prelude.{◌≡◌, ℕ, ◌==◌, ◌<◌, nat_lt, Bool, true, false, not, ◌&&◌, if◌then◌else◌, ⊤}
use Rattle.std.specs.Prelude.{List, [], ◌∷◌, ◌++◌, filter, find, All, Option, Some, None, Result, Ok, Err}
use Rattle.std.specs.List.{list_all, list_any}
use Rattle.nrm_keeper.specs.declared.row.KeptRow.{KeptRow}
use Rattle.nrm_keeper.specs.declared.row.KeepFault.{KeepFault}
use Rattle.nrm_keeper.specs.declared.row.KeepFault.TheVariants.{Failed, NoMemory}

-- the number of each row is below those of the rows behind it
abbrev pub rise : List KeptRow → Bool
rise [] = true
rise (row ∷ more) = list_all (λ later. nat_lt row.number later.number) more && rise more

-- rows are told if their numbers rise
abbrev pub told_if_rising : List KeptRow → Option (List KeptRow)
told_if_rising rows = if rise rows then Some rows else None

-- some row has the number
abbrev pub is_kept : ℕ → List KeptRow → Bool
is_kept number rows = list_any (λ row. row.number == number) rows

-- the first row of the number, if there is one
abbrev pub numbered : ℕ → List KeptRow → Option KeptRow
numbered number rows = find (λ row. row.number == number) rows

-- the rows of other numbers
abbrev pub without : ℕ → List KeptRow → List KeptRow
without number rows = filter (λ row. not (row.number == number)) rows

-- if rows were told and the number is above each of theirs, they are told, with the row behind them
abbrev pub Adds : KeptRow → Option (List KeptRow) → Option (List KeptRow) → Type 0
Adds row None after = ⊤
Adds row (Some rows) after = All (λ kept. kept.number < row.number) rows → after ≡ Some (rows ++ row ∷ [])

-- if rows were told and one has the number, they are told without that row
abbrev pub Drops : ℕ → Option (List KeptRow) → Option (List KeptRow) → Type 0
Drops number None after = ⊤
Drops number (Some rows) after = is_kept number rows ≡ true → after ≡ Some (without number rows)

-- if rows were told, the same rows are told
abbrev pub Keeps : Option (List KeptRow) → Option (List KeptRow) → Type 0
Keeps None after = ⊤
Keeps (Some rows) after = after ≡ Some rows

-- if rows are told, the list is these rows
abbrev pub Lists : List KeptRow → Option (List KeptRow) → Type 0
Lists list None = ⊤
Lists list (Some rows) = list ≡ rows

-- if rows are told, what was found is the row of the number among them
abbrev pub Finds : ℕ → Option KeptRow → Option (List KeptRow) → Type 0
Finds number found None = ⊤
Finds number found (Some rows) = found ≡ numbered number rows

-- the answer says that the keeper failed; that memory ran out is no failure of the keeper
abbrev pub has_failed : {T : Type 0} → Result T KeepFault → Bool
has_failed (Ok answer) = false
has_failed (Err Failed) = true
has_failed (Err NoMemory) = false
