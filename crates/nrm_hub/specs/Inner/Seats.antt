-- The clients of a hub by their places.
use Rattle.std.specs.Prelude.{ℕ, ◌≡◌, ◌≢◌, ◌<◌, ◌≤◌, ◌⊎◌, Bool, true, false, List, [], ◌++◌, get_or, is_some, length, option_map, replicate, slice_set, Option, Some, None}
use Rattle.nrm_frames.specs.declared.limits.TheConstants.{LAST_PLACE}
use Rattle.nrm_frames.specs.declared.why.Why.{Why}
use Rattle.nrm_hub.specs.Clients.{ClientValue, closed_for}
use Rattle.nrm_hub.specs.Hub.{unseated}
use Rattle.nrm_hub.specs.Inner.Taking.{Came, IsTook}
use Rattle.nrm_hub.specs.Register.{RegisterValue}
use Rattle.nrm_hub.specs.Spare.{IsSpare}
use Rattle.nrm_hub.specs.Due.{DueValue, IsDue, due_at}
use Rattle.nrm_hub.specs.Waiting.{IsAtRest}
use Rattle.nrm_hub.specs.World.{TakesNothing}
use Rattle.nrm_hub.specs.declared.client.Took.{Took}
use Rattle.nrm_hub.specs.declared.client.Took.TheVariants as took

-- the client at a place is to be closed; or nobody is there, or one who is to be closed already
pub data ClosesAt (clients : List (Option ClientValue)) (place : ℕ) (reason : Why) : List (Option ClientValue) → Bool → Type 0 where
  closes : (c : ClientValue) → get_or clients place None ≡ Some c → c.closing ≡ None
      → ClosesAt clients place reason (slice_set clients place (Some (closed_for c reason))) true
  stays : TakesNothing (get_or clients place None) → ClosesAt clients place reason clients false

-- a piece came from the client at a place, which is perhaps to be closed by that; or nobody is there, or one who is to be closed
pub data CameAt (clients : List (Option ClientValue)) (place : ℕ) (piece : List ℕ) : List (Option ClientValue) → Bool → Type 0 where
  came : (c c' : ClientValue) → get_or clients place None ≡ Some c → c.closing ≡ None → Came c c' piece
      → CameAt clients place piece (slice_set clients place (Some c')) (is_some c'.closing)
  passed_by : TakesNothing (get_or clients place None) → CameAt clients place piece clients false

-- every client among so many that is this desk is to be closed, but for the one at a place
pub record AreUnseated (old new : List (Option ClientValue)) (place desk count : ℕ) : Type 0 where
  pub many : length new ≡ length old
  pub others : (other : ℕ) → other < count → other ≢ place → get_or new other None ≡ option_map (unseated desk) (get_or old other None)
  pub same : (other : ℕ) → (count ≤ other) ⊎ (other ≡ place) → get_or new other None ≡ get_or old other None

-- one of them is, but for the one at this place
pub record UnseatsBeside (old new : List (Option ClientValue)) (place desk other : ℕ) : Type 0 where
  pub stays : other ≡ place → new ≡ old
  pub goes : other ≢ place → new ≡ slice_set old other (option_map (unseated desk) (get_or old other None))

-- all that was to be told to the client at a place was sent
abbrev pub IsToldAt : List (Option ClientValue) → ℕ → Type 0
IsToldAt clients place = (c : ClientValue) → get_or clients place None ≡ Some c → (c.told ≡ []) × (c.used ≡ 0)

-- what was taken of the client at a place; or nobody is there of whom a line is taken
pub data TakesAt (spare : Option ℕ) (r r' : RegisterValue) (clients : List (Option ClientValue)) (place : ℕ) : List (Option ClientValue) → Took → Type 0 where
  takes : (c c' : ClientValue) (result : Took) → get_or clients place None ≡ Some c → c.closing ≡ None → IsTook spare r r' c c' result
      → TakesAt spare r r' clients place (slice_set clients place (Some c')) result
  nobody : r' ≡ r → TakesNothing (get_or clients place None) → TakesAt spare r r' clients place clients took.Nothing

-- what was taken of the client at a place, for which the spare desk may be forgotten if it is none yet
pub record TakesBy (r r' : RegisterValue) (clients : List (Option ClientValue)) (place : ℕ) (clients' : List (Option ClientValue)) (result : Took)
    : Type 0 where
  pub spare : Option ℕ
  pub is_spare : (c : ClientValue) → get_or clients place None ≡ Some c → c.desk ≡ None → IsSpare r clients spare
  pub takes : TakesAt spare r r' clients place clients' result

-- the client at a place is this desk; somebody is
abbrev pub IsDeskOf : List (Option ClientValue) → ℕ → ℕ → Type 0
IsDeskOf clients place desk = (c : ClientValue) × (get_or clients place None ≡ Some c) × (c.desk ≡ Some desk)

abbrev pub IsSomebodys : List (Option ClientValue) → ℕ → Type 0
IsSomebodys clients desk = (place : ℕ) × IsDeskOf clients place desk

-- places that nobody was at were added behind the others
abbrev pub HasPlaces : List (Option ClientValue) → List (Option ClientValue) → Type 0
HasPlaces old new = (count : ℕ) × (new ≡ old ++ replicate count None)

-- each client that is there is as it was, or so
abbrev pub Only : (ClientValue → Type 0) → List (Option ClientValue) → List (Option ClientValue) → Type 0
Only P old new =
    (place : ℕ) (c : ClientValue) → get_or new place None ≡ Some c → (get_or old place None ≡ Some c) ⊎ P c

-- and the one at this place is so
pub record MakesSo (P : ClientValue → Type 0) (old new : List (Option ClientValue)) (place : ℕ) : Type 0 where
  pub so : (c : ClientValue) → get_or new place None ≡ Some c → P c
  pub only : Only P old new

-- all others are as they were
abbrev pub OthersStay : List (Option ClientValue) → List (Option ClientValue) → ℕ → Type 0
OthersStay old new place = (other : ℕ) → (other ≡ place) ⊎ (get_or new other None ≡ get_or old other None)

-- what waited for the client at a place was sent, and all others are as they were
pub record WasSent (old new : List (Option ClientValue)) (place : ℕ) : Type 0 where
  pub sent : IsToldAt new place
  pub others : OthersStay old new place

-- the client at a place was closed, if it was to be, and all others are as they were
pub record WasClosed (old new : List (Option ClientValue)) (place : ℕ) : Type 0 where
  pub left : (c : ClientValue) → get_or new place None ≡ Some c → (get_or old place None ≡ Some c) × (c.closing ≡ None)
  pub others : OthersStay old new place

-- nobody is at a place, or one who is at rest
abbrev pub IsQuietAt : List (Option ClientValue) → ℕ → Type 0
IsQuietAt clients place = (c : ClientValue) → get_or clients place None ≡ Some c → IsAtRest c

-- each client is so, or its place is in a list
abbrev pub AreListed : (ClientValue → Type 0) → List (Option ClientValue) → DueValue → Type 0
AreListed P clients listed =
    (place : ℕ) (c : ClientValue) → place ≤ LAST_PLACE → get_or clients place None ≡ Some c → P c ⊎ IsDue listed place

-- those at so many places of a list are so, and each other client is as it was, or so
pub record AreSo (P : ClientValue → Type 0) (old new : List (Option ClientValue)) (listed : DueValue) (count : ℕ) : Type 0 where
  pub only : Only P old new
  pub done : (at : ℕ) (c : ClientValue) → at < count → get_or new (due_at listed at) None ≡ Some c → P c
