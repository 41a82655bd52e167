-- How a session over a stream ends.
use Rattle.std.specs.Prelude.{ℕ, ⊤, [], ◌≡◌, ◌+◌, ◌<◌, ◌≤◌, ◌⊎◌, List, ◌∷◌, ◌++◌, flat_map, length, take, Option}
use Rattle.std.specs.Io.KnownBytes.{Appends, Consumes, IsAtEnd}
use Rattle.nrm_edge.specs.Causes.{Rose}
use Rattle.nrm_model.specs.Network.{NetworkValue}
use Rattle.nrm_control.specs.State.{SeatState}
use Rattle.nrm_control.specs.Standing.{ControlValue, Represents}
use Rattle.nrm_stream.specs.Commands.{commands_of, whole_commands}
use Rattle.nrm_stream.specs.declared.command.Command.{Command}
use Rattle.nrm_session.specs.Replies.{text_of}
use Rattle.nrm_session.specs.Step.{Step}
use Rattle.nrm_session.specs.Run.{RunBy, Writes}
use Rattle.nrm_session.specs.declared.serving.End.{End}
use Rattle.nrm_session.specs.declared.serving.End.TheVariants as end

-- Of these commands one was cut, since a put failed: the replies to those before it stand whole, then a front of its own reply,
-- which isn't all of it, and s' is the state after it. Replies are given by steps, as in a run.
pub record CutBy {R : Type 0} (step_by : SeatState → Command → R → SeatState → Type 0) (text : R → List ℕ) (s : SeatState)
    (commands : List Command) (bytes : List ℕ) (s' : SeatState) : Type 0 where
  pub before : List Command
  pub cut : Command
  pub after : List Command
  pub commands_are : commands ≡ before ++ cut ∷ after
  pub replies : List R
  pub mid : SeatState
  pub run : RunBy step_by s before replies mid
  pub reply : R
  pub step : step_by mid cut reply s'
  pub count : ℕ
  pub short : count < length (text reply)
  pub output : bytes ≡ flat_map text replies ++ take count (text reply)

-- so it is of a controller's own steps
abbrev pub WritesCut : NetworkValue → SeatState → List Command → List ℕ → SeatState → Type 0
WritesCut net = CutBy (Step net) text_of

-- The network stays. From each state that the controller represented, a run over the commands gives this output, and the controller
-- represents the run's last state.
pub record Refines (old new : ControlValue) (commands : List Command) (output : List ℕ) : Type 0 where
  pub network : new.net ≡ old.net
  pub run : (s : SeatState) → Represents old s → (s' : SeatState) × Represents new s' × Writes old.net s commands output s'

-- the same of a run that was cut in a reply
pub record RefinesCut (old new : ControlValue) (commands : List Command) (output : List ℕ) : Type 0 where
  pub network : new.net ≡ old.net
  pub run : (s : SeatState) → Represents old s → (s' : SeatState) × Represents new s' × WritesCut old.net s commands output s'

-- What stands outside a session: the bytes to come and the bytes that were put, where they are told, and how often each side has failed.
pub record Streams : Type 0 where
  pub coming : Option (List ℕ)
  pub held : Option (List ℕ)
  pub source_faults : ℕ
  pub sink_faults : ℕ

-- the streams that a source and a sink show by what each tells of itself
abbrev pub streams : {S K : Type 0} → (S → Option (List ℕ)) → (S → ℕ) → (K → Option (List ℕ)) → (K → ℕ) → S → K → Streams
streams coming source_faults held sink_faults source sink = record {
  coming = coming source;
  held = held sink;
  source_faults = source_faults source;
  sink_faults = sink_faults sink;
}

-- these bytes were taken, no more than the limit, and this was written
pub record TookAndWrote (before after : Streams) (limit : ℕ) (taken output : List ℕ) : Type 0 where
  pub consumed : Consumes before.coming after.coming taken
  pub short : length taken ≤ limit
  pub written : Appends before.held after.held output

-- What each end says, by what it means that commands were answered with an output and that one of them was cut. Done: the input
-- was taken to its end, and the replies to all its lines were written. ReadFault: the replies to the whole lines that were taken.
-- WriteFault: one line was cut, or only sending on the replies to all failed: of the whole lines that were taken, or of all lines
-- of an input that was taken to its end. TooLong: one byte more than the limit was taken, and the replies to the whole lines
-- before that byte were written.
abbrev pub ServesBy : (List Command → List ℕ → Type 0) → (List Command → List ℕ → Type 0) → Streams → Streams → ℕ → End → Type 0
ServesBy whole cut before after limit end.Done =
    (taken : List ℕ) × (output : List ℕ) × TookAndWrote before after limit taken output × IsAtEnd after.coming
    × whole (commands_of taken) output
ServesBy whole cut before after limit end.ReadFault =
    (taken : List ℕ) × (output : List ℕ) × TookAndWrote before after limit taken output × whole (whole_commands taken) output
ServesBy whole cut before after limit end.WriteFault =
    (taken : List ℕ) × (output : List ℕ) × TookAndWrote before after limit taken output
    × ((cut (whole_commands taken) output ⊎ whole (whole_commands taken) output)
    ⊎ (IsAtEnd after.coming × (cut (commands_of taken) output ⊎ whole (commands_of taken) output)))
ServesBy whole cut before after limit end.TooLong =
    (taken : List ℕ) × (output : List ℕ) × Consumes before.coming after.coming taken × (length taken ≡ limit + 1)
    × Appends before.held after.held output × whole (whole_commands (take limit taken)) output

-- a controller alone
abbrev pub Serves : ControlValue → ControlValue → Streams → Streams → ℕ → End → Type 0
Serves old new = ServesBy (Refines old new) (RefinesCut old new)

-- which counts of faults each end lets rise: the source's alone, the sink's alone, or none
abbrev pub CountsFaults : Streams → Streams → End → Type 0
CountsFaults before after end.Done = (after.source_faults ≡ before.source_faults) × (after.sink_faults ≡ before.sink_faults)
CountsFaults before after end.ReadFault =
    Rose before.source_faults after.source_faults × (before.source_faults ≤ after.source_faults) × (after.sink_faults ≡ before.sink_faults)
CountsFaults before after end.WriteFault =
    Rose before.sink_faults after.sink_faults × (before.sink_faults ≤ after.sink_faults) × (after.source_faults ≡ before.source_faults)
CountsFaults before after end.TooLong = (after.source_faults ≡ before.source_faults) × (after.sink_faults ≡ before.sink_faults)

-- From a sink that keeps nothing back nothing is kept back at the end, unless the sink failed. A take may fail each time, and the
-- session then ends with nothing kept back: so all that was put is sent on before more is taken.
abbrev pub SentOn : List ℕ → List ℕ → End → Type 0
SentOn unsent unsent' end.Done = unsent ≡ [] → unsent' ≡ []
SentOn unsent unsent' end.ReadFault = unsent ≡ [] → unsent' ≡ []
SentOn unsent unsent' end.TooLong = unsent ≡ [] → unsent' ≡ []
SentOn unsent unsent' end.WriteFault = ⊤
