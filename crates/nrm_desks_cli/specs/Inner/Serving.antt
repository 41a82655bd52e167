-- What holds between two takes.
use Rattle.std.specs.Prelude.{ℕ, ◌≡◌, ◌≢◌, ◌⊎◌, ◌<◌, ◌≤◌, List, [], ◌++◌, drop, length, Option, Some, None, ⊤, Result, Ok, Err}
use Rattle.std.specs.Io.KnownBytes.{Consumes, IsAtEnd, Keeps}
use Rattle.nrm_control.specs.Standing.{ControlValue}
use Rattle.nrm_edge.specs.Causes.{Rose}
use Rattle.nrm_frames.specs.Cutting.{cut_of, no_frame, part, whole}
use Rattle.nrm_frames.specs.declared.header.Header.{Header}
use Rattle.nrm_hub.specs.Goes.{Puts, PutsCut}
use Rattle.nrm_hub.specs.Hub.{HubValue}
use Rattle.nrm_session.specs.Serving.{Streams}
use Rattle.nrm_desks_cli.specs.Inner.Handling.{Handles}
use Rattle.nrm_desks_cli.specs.declared.handling.Handled.{Handled}
use Rattle.nrm_desks_cli.specs.declared.handling.Handled.TheVariants as handled
use Rattle.nrm_desks_cli.specs.Served.{HasEnded, HasNoRow, IsNoFrame, IsOpen, IsTooLong, NothingIsLeft, Served, ServedCut}
use Rattle.nrm_desks_cli.specs.declared.incoming.TheConstants.{ROOM}
use Rattle.nrm_desks_cli.specs.declared.serving.ServeEnd.{ServeEnd}
use Rattle.nrm_desks_cli.specs.declared.serving.ServeEnd.TheVariants as end

-- the hub stands in a world that was served, so many bytes were taken, and these wait
pub record Stands (start : ControlValue) (before after : Streams) (hub : HubValue) (waiting : List ℕ) (taken : ℕ) : Type 0 where
  pub served : Served start before after
  pub hub_is : served.world.hub ≡ hub
  pub waits : served.rest ≡ waiting
  pub count : length served.taken ≡ taken
  pub open_still : IsOpen hub

-- streams, with another sink
abbrev pub at_sink : Streams → Option (List ℕ) → ℕ → Streams
at_sink at held faults = record { coming = at.coming; held = held; source_faults = at.source_faults; sink_faults = faults }

-- nothing was done
pub record StaysSo (old new : HubValue) (held held' : Option (List ℕ)) (before after : ℕ) : Type 0 where
  pub hub : new ≡ old
  pub stays : held' ≡ held
  pub faults : after ≡ before

-- the first frame that waits, of so many bytes, was done with
pub record DoesFrame (old new : HubValue) (waiting : List ℕ) (held held' : Option (List ℕ)) (before after : ℕ) (what : Handled) (used : ℕ)
    : Type 0 where
  pub header : Header
  pub payload : List ℕ
  pub rest : List ℕ
  pub cut : cut_of waiting ≡ whole header payload rest
  pub within : used ≤ length waiting
  pub some : 0 < used
  pub rest_is : rest ≡ drop used waiting
  pub handles : Handles old new header payload held held' before after what

-- and so if a whole one waits: a part waits; or what waits is none; or it is one
abbrev pub HandlesFirst : HubValue → HubValue → List ℕ → Option (List ℕ) → Option (List ℕ) → ℕ → ℕ → Option (Handled × ℕ) → Type 0
HandlesFirst old new waiting held held' before after None =
    (cut_of waiting ≡ part) × StaysSo old new held held' before after
HandlesFirst old new waiting held held' before after (Some done) =
    ((done.0 ≡ handled.NoFrame) × (cut_of waiting ≡ no_frame) × StaysSo old new held held' before after)
    ⊎ DoesFrame old new waiting held held' before after done.0 done.1

-- a frame was carried out
abbrev pub GoesOnFirst : Option (Handled × ℕ) → Type 0
GoesOnFirst None = ⊤
GoesOnFirst (Some pair) = pair.0 ≡ handled.GoesOn

-- how it ended, by what was done with a frame
abbrev pub end_of : Handled → Option ServeEnd
end_of handled.GoesOn = None
end_of handled.Ended = Some end.Done
end_of handled.NoFrame = Some end.NoFrame
end_of (handled.NotAgain fault) = Some (end.NotAgain fault)
end_of handled.Cut = Some end.WriteFault

-- all frames that wait were done with, and none waits but a part; or it ended before
abbrev pub StandsOr : ControlValue → Streams → Streams → ℕ → HubValue → List ℕ → ℕ → Option ServeEnd → Type 0
StandsOr start before after faults hub waiting taken None =
    Stands start before after hub waiting taken × (cut_of waiting ≡ part) × (after.sink_faults ≡ faults)
StandsOr start before after faults hub waiting taken (Some end.WriteFault) = ServedCut start before after × Rose faults after.sink_faults
StandsOr start before after faults hub waiting taken (Some end.Done) =
    ((served : Served start before after) × HasEnded served) × (after.sink_faults ≡ faults)
StandsOr start before after faults hub waiting taken (Some end.NoFrame) =
    ((served : Served start before after) × IsNoFrame served) × (after.sink_faults ≡ faults)
StandsOr start before after faults hub waiting taken (Some (end.NotAgain fault)) =
    ((served : Served start before after) × HasNoRow served fault) × (after.sink_faults ≡ faults)
StandsOr start before after faults hub waiting taken (Some end.ReadFault) = ⊥
StandsOr start before after faults hub waiting taken (Some end.TooLong) = ⊥

-- frames were put, whole or a front of them, or only sending them on failed
abbrev pub PutsOrCut : HubValue → HubValue → Option (List ℕ) → Option (List ℕ) → Type 0
PutsOrCut old new held held' = PutsCut old new [] held held' ⊎ Puts old new [] held held'

-- an end, once all that was put is sent on; or sending it on failed
pub data EndsWith (e : ServeEnd) (held held' : Option (List ℕ)) (before after : ℕ) : ServeEnd → Type 0 where
  sent : e ≢ end.WriteFault → Keeps held held' → after ≡ before → EndsWith e held held' before after e
  had_failed : e ≡ end.WriteFault → held' ≡ held → after ≡ before → EndsWith e held held' before after end.WriteFault
  fails : e ≢ end.WriteFault → Keeps held held' → Rose before after → EndsWith e held held' before after end.WriteFault

-- More bytes came behind those that wait; or the input has ended, between two frames or within one; or the source failed.
abbrev pub TakesOr : List ℕ → List ℕ → Option (List ℕ) → Option (List ℕ) → ℕ → ℕ → Result ℕ ServeEnd → Type 0
TakesOr old new coming coming' before now (Ok count) =
    ((piece : List ℕ) × (new ≡ old ++ piece) × (length piece ≡ count) × Consumes coming coming' piece) × (0 < count) × (count ≤ ROOM)
    × (now ≡ before)
TakesOr old new coming coming' before now (Err end.Done) =
    (new ≡ old) × Consumes coming coming' [] × (old ≡ []) × IsAtEnd coming' × (now ≡ before)
TakesOr old new coming coming' before now (Err end.NoFrame) =
    (new ≡ old) × Consumes coming coming' [] × (old ≢ []) × IsAtEnd coming' × (now ≡ before)
TakesOr old new coming coming' before now (Err end.ReadFault) = (new ≡ old) × Consumes coming coming' [] × Rose before now
TakesOr old new coming coming' before now (Err end.WriteFault) = ⊥
TakesOr old new coming coming' before now (Err end.TooLong) = ⊥
TakesOr old new coming coming' before now (Err (end.NotAgain fault)) = ⊥

-- how the serving of frames ended
abbrev pub ServesTo : ControlValue → Streams → Streams → ServeEnd → Type 0
ServesTo start before after end.Done = (served : Served start before after) × HasEnded served
ServesTo start before after end.ReadFault =
    ((served : Served start before after) × NothingIsLeft served) × Rose before.source_faults after.source_faults
ServesTo start before after end.WriteFault = ServedCut start before after × Rose before.sink_faults after.sink_faults
ServesTo start before after end.TooLong = (served : Served start before after) × IsTooLong served
ServesTo start before after end.NoFrame = (served : Served start before after) × IsNoFrame served
ServesTo start before after (end.NotAgain fault) =
    (served : Served start before after) × HasNoRow served fault
