-- Who waits for something: for a line of its own to be taken, to be told, or to be closed.
use Rattle.std.specs.Prelude.{ℕ, ◌≡◌, ◌≢◌, ◌==◌, ◌<◌, ◌≤◌, ◌⊎◌, false, [], All, length, Some, None}
use Rattle.nrm_frames.specs.declared.limits.TheConstants.{LAST_PLACE}
use Rattle.nrm_hub.specs.Clients.{ClientValue}
use Rattle.nrm_hub.specs.Hub.{HubValue, client_at}
use Rattle.nrm_hub.specs.declared.limits.TheConstants.{MOST_LINE}
use Rattle.nrm_hub.specs.declared.phase.Phase.TheVariants as phase

-- no whole line of it waits, and none that is too long
pub record HasNoLine (c : ClientValue) : Type 0 where
  pub short : length c.coming < MOST_LINE
  pub none : All (λ byte. (byte == 10) ≡ false) c.coming

-- all that was to be told to it was sent, and it isn't to be closed
pub record IsTold (c : ClientValue) : Type 0 where
  pub told : c.told ≡ []
  pub used : c.used ≡ 0
  pub stays : c.closing ≡ None

-- it waits for nothing
pub record IsAtRest (c : ClientValue) : Type 0 where
  pub told : IsTold c
  pub line : HasNoLine c

-- it had its turn: lines of it were used since it was told last, or it is to be closed, or it has none
abbrev pub HadTurn : ClientValue → Type 0
HadTurn c = (0 < c.used) ⊎ ((c.closing ≢ None) ⊎ HasNoLine c)

-- so it is with each client, at each place that a frame can name
abbrev pub OfEach : (ClientValue → Type 0) → HubValue → Type 0
OfEach P h = (place : ℕ) (c : ClientValue) → place ≤ LAST_PLACE → client_at h place ≡ Some c → P c

-- Nothing is due: the word that all is kept is awaited, or it was said and nobody waits for anything.
abbrev pub NothingIsDue : HubValue → Type 0
NothingIsDue h = (h.phase ≡ phase.Asked) ⊎ ((h.phase ≡ phase.Settled) × OfEach IsAtRest h)
