-- What private functions take of a client.
use Rattle.std.specs.Prelude.{ℕ, ◌≡◌, ◌==◌, ◌+◌, ◌<◌, ◌≤◌, ◌⊎◌, false, List, All, drop, length, position, take, Option, Some, None, ⊤}
use Rattle.nrm_frames.specs.declared.why.Why.TheVariants as why
use Rattle.nrm_hub.specs.Clients.{ClientValue, Hears, after_line, closed_for, joined_as, with_piece}
use Rattle.nrm_hub.specs.Asked.{asked_in}
use Rattle.nrm_hub.specs.Lines.{How}
use Rattle.nrm_hub.specs.Register.{Joins, RegisterValue, desk_at}
use Rattle.nrm_hub.specs.Taking.{TakesLine}
use Rattle.nrm_hub.specs.Waiting.{HasNoLine}
use Rattle.nrm_hub.specs.World.{IsNoGreeting, IsTooMuch}
use Rattle.nrm_hub.specs.declared.limits.TheConstants.{MOST_LINE, MOST_WAITING}
use Rattle.nrm_hub.specs.declared.client.Took.{Took}
use Rattle.nrm_hub.specs.declared.client.Took.TheVariants as took
use Rattle.nrm_hub.specs.declared.line.Taken.{Taken}
use Rattle.nrm_hub.specs.declared.line.Taken.TheVariants as become
use Rattle.nrm_hub.specs.declared.register.JoinFault.{JoinFault}
use Rattle.nrm_session.specs.Replies.{memory, text_of}
use Rattle.nrm_hub.specs.declared.register.JoinFault.TheVariants as join

-- a piece came from a client, or it is to be closed
pub data Came (c : ClientValue) : ClientValue → List ℕ → Type 0 where
  joined : (piece : List ℕ) → length c.coming + length piece ≤ MOST_WAITING → Came c (with_piece c piece) piece
  refused : (piece : List ℕ) (reason : _) → IsTooMuch c piece reason → Came c (closed_for c reason) piece

-- the client after what became of a line
abbrev pub settled : ClientValue → Taken → ClientValue
settled c become.Told = c
settled c become.Cut = closed_for c why.Memory
settled c (become.Refused reason) = closed_for c reason

-- the client after a line of it was answered, or refused
abbrev pub answered_as : ClientValue → List ℕ → List ℕ → Taken → ClientValue
answered_as c line rest become.Told = record (after_line c line rest) { number = c.number + 1 }
answered_as c line rest become.Cut = closed_for (record (after_line c line rest) { number = c.number + 1 }) why.Memory
answered_as c line rest (become.Refused reason) = closed_for (after_line c line rest) reason

-- the line that ends at a place was taken
pub record TakesIts (spare : Option ℕ) (r r' : RegisterValue) (c c' : ClientValue) (end : ℕ) : Type 0 where
  pub how : How
  pub text : List ℕ
  pub takes : TakesLine spare r c (take end c.coming) (drop (end + 1) c.coming) r' c' how text

-- it was used, and a text joins what waits
abbrev pub Excuses : ClientValue → ClientValue → ℕ → List ℕ → Type 0
Excuses c c' end text = Hears (after_line c (take end c.coming) (drop (end + 1) c.coming)) text c'

-- it was used by a client whose name has no desk
abbrev pub GoesWithout : ClientValue → ClientValue → ℕ → JoinFault → Type 0
GoesWithout c c' end join.NoMemory = Excuses c c' end (text_of memory)
GoesWithout c c' end join.TooMany = c' ≡ closed_for (after_line c (take end c.coming) (drop (end + 1) c.coming)) why.Desks

-- it was taken, by a client that perhaps became a desk before
pub data Begins (spare : Option ℕ) (r r' : RegisterValue) (c c' : ClientValue) (end : ℕ) : Type 0 where
  taken : TakesIts spare r r' c c' end → Begins spare r r' c c' end
  joined : (mid : RegisterValue) (d : ℕ) → c.desk ≡ None → IsNoGreeting (asked_in (take end c.coming)) → Joins spare r c.name mid d
      → TakesIts spare mid r' (joined_as c d (desk_at mid d).next) c' end → Begins spare r r' c c' end

-- a line was taken, or none; or a line is too long
pub data Takes (spare : Option ℕ) (r : RegisterValue) (c : ClientValue) : RegisterValue → ClientValue → Type 0 where
  nothing : Takes spare r c r c
  line : (end : ℕ) (r' : RegisterValue) (c' : ClientValue) → position (λ byte. byte == 10) c.coming ≡ Some end → end < MOST_LINE
      → Begins spare r r' c c' end → Takes spare r c r' c'
  too_long : MOST_LINE ≤ length c.coming → All (λ byte. (byte == 10) ≡ false) (take MOST_LINE c.coming) → Takes spare r c r (closed_for c why.Long)

-- a line was taken
pub record TakesNext (spare : Option ℕ) (r r' : RegisterValue) (c c' : ClientValue) : Type 0 where
  pub end : ℕ
  pub ends : position (λ byte. byte == 10) c.coming ≡ Some end
  pub short : end < MOST_LINE
  pub begins : Begins spare r r' c c' end

abbrev pub IsLine : Took → Type 0
IsLine took.Line = ⊤
IsLine took.LongLine = ⊤
IsLine took.Nothing = ⊥
IsLine took.TooLong = ⊥

-- what was taken, by what is said of it
abbrev pub IsTook : Option ℕ → RegisterValue → RegisterValue → ClientValue → ClientValue → Took → Type 0
IsTook spare r r' c c' took.Nothing = (r' ≡ r) × (c' ≡ c) × ((0 < c.used) ⊎ HasNoLine c)
IsTook spare r r' c c' took.Line = TakesNext spare r r' c c'
IsTook spare r r' c c' took.LongLine = TakesNext spare r r' c c'
IsTook spare r r' c c' took.TooLong = (r' ≡ r) × (c' ≡ closed_for c why.Long) × (MOST_LINE ≤ length c.coming)
    × All (λ byte. (byte == 10) ≡ false) (take MOST_LINE c.coming)
