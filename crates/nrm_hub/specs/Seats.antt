-- The clients of a hub by their places, and what becomes of one that is opened.
use Rattle.std.specs.Prelude.{ℕ, ◌≡◌, ◌<◌, ◌≤◌, List, [], ◌∷◌, All, get_or, length, Option, Some, None, ⊤}
use Rattle.nrm_frames.specs.declared.limits.TheConstants.{LAST_PLACE}
use Rattle.nrm_frames.specs.Outgoing.{close}
use Rattle.nrm_frames.specs.declared.header.Header.TheVariants as header
use Rattle.nrm_frames.specs.declared.rights.Rights.{Rights}
use Rattle.nrm_frames.specs.declared.why.Why.TheVariants as why
use Rattle.nrm_hub.specs.Clients.{ClientValue}
use Rattle.nrm_hub.specs.Due.{AreDue, DueValue}
use Rattle.nrm_hub.specs.Goes.{Goes}
use Rattle.nrm_hub.specs.Hub.{HubValue, client_at}
use Rattle.nrm_hub.specs.Register.{RegisterValue}
use Rattle.nrm_hub.specs.Waiting.{IsTold}
use Rattle.nrm_hub.specs.World.{frame}
use Rattle.nrm_hub.specs.declared.hub.Opened.{Opened}
use Rattle.nrm_hub.specs.declared.hub.Opened.TheVariants as is
use Rattle.nrm_hub.specs.declared.phase.Phase.{Phase}
use Rattle.nrm_hub.specs.declared.phase.Phase.TheVariants as phase

-- the number of a desk, if there is one, is below this one
abbrev pub IsBelow : Option ℕ → ℕ → Type 0
IsBelow None count = ⊤
IsBelow (Some desk) count = desk < count

-- the desk of each client is one of so many
abbrev pub IsSeated : ℕ → Option ClientValue → Type 0
IsSeated desks None = ⊤
IsSeated desks (Some c) = IsBelow c.desk desks

abbrev pub AreSeated : List (Option ClientValue) → ℕ → Type 0
AreSeated clients desks = All (IsSeated desks) clients

-- all that was to be told was sent to each client, and nobody is to be closed
abbrev pub AreTold : List (Option ClientValue) → Type 0
AreTold clients = (place : ℕ) (c : ClientValue) → place ≤ LAST_PLACE → get_or clients place None ≡ Some c → IsTold c

-- what holds of each hub: its clients' desks are there, what is due of them is listed, nobody is there while rows are given again, and all were told
-- where no word is awaited
abbrev pub IsHub : RegisterValue → List (Option ClientValue) → DueValue → DueValue → Phase → Type 0
IsHub register clients due heard p =
    AreSeated clients (length register.desks) × AreDue clients due heard
    × (p ≡ phase.Replaying → (clients ≡ []) × (register.text ≡ [])) × (p ≡ phase.Settled → AreTold clients)

-- what became of a client that was opened
abbrev pub IsOpened : HubValue → HubValue → ℕ → List ℕ → Rights → Opened → Type 0
IsOpened old new place name rights is.There = Goes old new (frame (header.Open place name rights) [] ∷ []) []
IsOpened old new place name rights is.IsTaken = (new ≡ old) × ((c : ClientValue) × (client_at old place ≡ Some c))
IsOpened old new place name rights is.NoMemory =
    Goes old new (frame (header.Open place name rights) [] ∷ []) (close place why.Memory ∷ [])
