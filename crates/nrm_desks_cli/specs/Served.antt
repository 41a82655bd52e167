-- How frames were served.
use Rattle.std.specs.Prelude.{ℕ, Option, ◌≡◌, ◌≢◌, ◌≤◌, ◌⊎◌, true, List, [], ◌∷◌, ◌++◌, flat_map, length, None}
use Rattle.std.specs.Io.KnownBytes.{Appends, Consumes, IsAtEnd}
use Rattle.nrm_edge.specs.Pieces.{AppendsCut}
use Rattle.nrm_control.specs.Standing.{ControlValue}
use Rattle.nrm_frames.specs.Cutting.{cut_of, no_frame, part, whole}
use Rattle.nrm_frames.specs.Frames.{AreFrames, Frame}
use Rattle.nrm_frames.specs.Outgoing.{output_text}
use Rattle.nrm_frames.specs.declared.header.Header.{Header}
use Rattle.nrm_frames.specs.declared.header.Header.TheVariants as header
use Rattle.nrm_session.specs.Serving.{Streams}
use Rattle.nrm_hub.specs.Again.{FailsAgain}
use Rattle.nrm_hub.specs.Hub.{HubValue, client_at, takes_frames}
use Rattle.nrm_hub.specs.Waiting.{NothingIsDue}
use Rattle.nrm_hub.specs.World.{Comes, World, beginning}
use Rattle.nrm_hub.specs.declared.again.AgainFault.{AgainFault}
use Rattle.nrm_hub.specs.declared.phase.Phase.TheVariants as phase
use Rattle.nrm_desks_cli.specs.declared.serving.TheConstants.{MOST_BYTES}

-- Frames may come: the rows of the journal aren't all given again, or clients may come. So the last frame didn't come.
abbrev pub IsOpen : HubValue → Type 0
IsOpen hub = (hub.phase ≡ phase.Replaying) ⊎ (takes_frames hub.phase ≡ true)

-- A frame that may not come: rows behind all rows, another one before them, a client at a taken place, and `kept` where it isn't awaited.
abbrev pub MayNotCome : HubValue → Header → Type 0
MayNotCome hub (header.Again size) = hub.phase ≢ phase.Replaying
MayNotCome hub (header.Open place name rights) = (hub.phase ≡ phase.Replaying) ⊎ (client_at hub place ≢ None)
MayNotCome hub header.Kept = hub.phase ≢ phase.Asked
MayNotCome hub header.End = ⊥
MayNotCome hub other = hub.phase ≡ phase.Replaying

-- These bytes were taken, and the frames that they begin with came; the world went on to this one; and the frames that it wrote were written.
pub record ServedBy (Writes : Option (List ℕ) → Option (List ℕ) → List ℕ → Type 0) (start : ControlValue) (before after : Streams) : Type 0 where
  pub world : World
  pub comes : Comes (beginning start) world
  pub taken : List ℕ
  pub rest : List ℕ
  pub frames : AreFrames taken world.inputs rest
  pub consumed : Consumes before.coming after.coming taken
  pub written : Writes before.held after.held (flat_map output_text world.outputs)

-- these frames are just what was written; or a put failed, or sending on what was put, and a front of them was written, or all of them
abbrev pub Served : ControlValue → Streams → Streams → Type 0
Served start before after = ServedBy Appends start before after

abbrev pub ServedCut : ControlValue → Streams → Streams → Type 0
ServedCut start before after = ServedBy AppendsCut start before after

-- more rows of the journal may be given again; or the word that all is kept is awaited, or nobody waits for anything
abbrev pub IsDone : HubValue → Type 0
IsDone hub = (hub.phase ≡ phase.Replaying) ⊎ NothingIsDue hub

-- each whole frame that came was carried out, and nothing is due behind the last
abbrev pub NothingIsLeft : {start : ControlValue} {before after : Streams} → Served start before after → Type 0
NothingIsLeft served = (cut_of served.rest ≡ part) × IsDone served.world.hub

-- the last frame was `end`; or the input has ended behind a frame, and nothing is due
abbrev pub HasEnded : {start : ControlValue} {before after : Streams} → Served start before after → Type 0
HasEnded {after = after} served =
    ((front : List Frame) × (served.world.inputs ≡ front ++ record { header = header.End; payload = [] } ∷ []))
    ⊎ ((served.rest ≡ []) × IsAtEnd after.coming × NothingIsLeft served)

-- what comes behind the frames is none, or the input ends within one and nothing else is due, or it may not come
abbrev pub IsNoFrame : {start : ControlValue} {before after : Streams} → Served start before after → Type 0
IsNoFrame {after = after} served =
    IsOpen served.world.hub × ((cut_of served.rest ≡ no_frame) ⊎ (((served.rest ≢ []) × IsAtEnd after.coming × NothingIsLeft served)
    ⊎ ((h : Header) × (payload : List ℕ) × (behind : List ℕ) × (cut_of served.rest ≡ whole h payload behind) × MayNotCome served.world.hub h)))

-- more bytes came than are counted, and nothing is due
abbrev pub IsTooLong : {start : ControlValue} {before after : Streams} → Served start before after → Type 0
IsTooLong served = (MOST_BYTES ≤ length served.taken) × NothingIsLeft served

-- rows come behind the frames that can't be given again
abbrev pub HasNoRow : {start : ControlValue} {before after : Streams} → Served start before after → AgainFault → Type 0
HasNoRow served fault =
    (served.world.hub.phase ≡ phase.Replaying) × (size : ℕ) × (payload : List ℕ) × (behind : List ℕ) × (cut_of served.rest ≡ whole (header.Again size) payload behind)
    × FailsAgain served.world.hub.register payload fault
