-- Which desk may be forgotten, so that another one has its number.
use Rattle.std.specs.Prelude.{ℕ, ◌≡◌, ◌≢◌, ◌<◌, ◌⊎◌, List, get_or, length, Option, Some, None}
use Rattle.nrm_hub.specs.Clients.{ClientValue}
use Rattle.nrm_hub.specs.Register.{RegisterValue, desk_at}
use Rattle.nrm_hub.specs.declared.limits.TheConstants.{MOST_DESKS}

-- a desk may be forgotten if it has no row and no client is this desk: so what was sold, and each number that was used, is remembered
pub record IsForgettable (r : RegisterValue) (clients : List (Option ClientValue)) (d : ℕ) : Type 0 where
  pub within : d < length r.desks
  pub unused : (desk_at r d).next ≡ 1
  pub nobody : (place : ℕ) (c : ClientValue) → get_or clients place None ≡ Some c → c.desk ≢ Some d

-- a desk that may be forgotten; or there is none, or there is room for another one
abbrev pub IsSpare : RegisterValue → List (Option ClientValue) → Option ℕ → Type 0
IsSpare r clients (Some d) = IsForgettable r clients d
IsSpare r clients None = (length r.desks < MOST_DESKS) ⊎ ((d : ℕ) → IsForgettable r clients d → ⊥)
