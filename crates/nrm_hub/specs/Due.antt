-- The places at which something is due.
use Rattle.std.specs.Prelude.{ℕ, ◌≡◌, ◌≢◌, ◌+◌, ◌≤◌, ◌⊎◌, Bool, true, false, List, [], Contains, get_or, length, Option, Some, None, if◌then◌else◌}
use Rattle.nrm_frames.specs.declared.limits.TheConstants.{LAST_PLACE}
use Rattle.nrm_hub.specs.Clients.{ClientValue}
use Rattle.nrm_hub.specs.Waiting.{HasNoLine, IsTold}

-- places, in order; or all of them, since memory ran out for the list
pub record DueValue : Type 0 where
  pub places : List ℕ
  pub is_all : Bool

abbrev pub nothing_due : DueValue
nothing_due = record { places = []; is_all = false }

abbrev pub IsDue : DueValue → ℕ → Type 0
IsDue due place = (due.is_all ≡ true) ⊎ Contains due.places place

-- how many are to be looked at, and which is the one behind so many others
abbrev pub due_count : DueValue → ℕ
due_count due = if due.is_all then LAST_PLACE + 1 else length due.places

abbrev pub due_at : DueValue → ℕ → ℕ
due_at due at = if due.is_all then at else get_or due.places at 0

-- what was due is due
abbrev pub StillDue : DueValue → DueValue → Type 0
StillDue old new = (place : ℕ) → IsDue old place → IsDue new place

-- what was due is due, but perhaps at this place
abbrev pub StillDueBeside : ℕ → DueValue → DueValue → Type 0
StillDueBeside place old new = (other : ℕ) → other ≢ place → IsDue old other → IsDue new other

-- Each client that is to be told something, or to be closed, is among those that are heard; each other one of which a line waits is among
-- those whose turn comes, or among those that are heard.
abbrev pub AreDue : List (Option ClientValue) → DueValue → DueValue → Type 0
AreDue clients due heard =
    (place : ℕ) (c : ClientValue) → place ≤ LAST_PLACE → get_or clients place None ≡ Some c
    → IsDue heard place ⊎ (IsTold c × (IsDue due place ⊎ HasNoLine c))
