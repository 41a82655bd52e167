-- What the parts of serving a stream promise one another: which commands were answered, and what was written for them.
use Rattle.std.specs.Prelude.{ℕ, ◌≡◌, ◌≤◌, List, ◌++◌, length, Option}
use Rattle.nrm_control.specs.Standing.{ControlValue}
use Rattle.nrm_stream.specs.Commands.{whole_commands}
use Rattle.nrm_stream.specs.Lines.{unfinished_line}
use Rattle.nrm_stream.specs.Splitting.{kept_of}
use Rattle.nrm_stream.specs.declared.command.Command.{Command}
use Rattle.nrm_session.specs.Clerks.{Answers, AnswersCut, stopped}
use Rattle.nrm_session.specs.declared.serving.End.{End}
use Rattle.nrm_session.specs.declared.serving.End.TheVariants as end

-- after any bytes of whose unfinished line this is kept, a piece ends the lines of these commands
abbrev pub Brings : Option (List ℕ) → List ℕ → List Command → Type 0
Brings kept piece commands = (taken : List ℕ) → kept ≡ kept_of (unfinished_line taken)
    → whole_commands (taken ++ piece) ≡ whole_commands taken ++ commands

-- and this is kept of the unfinished line then
abbrev pub Leaves : Option (List ℕ) → List ℕ → Option (List ℕ) → Type 0
Leaves kept piece kept' = (taken : List ℕ) → kept ≡ kept_of (unfinished_line taken) → kept' ≡ kept_of (unfinished_line (taken ++ piece))

-- the lines that a piece ends were answered, and what is left of it is an unfinished line
pub record AnswersPiece {B : Type 0} (whole : (ControlValue × B) → (ControlValue × B) → List Command → List ℕ → Type 0)
    (ready : (ControlValue × B) → Type 0) (old new : ControlValue × B) (kept kept' : Option (List ℕ)) (piece : List ℕ)
    (held held' : Option (List ℕ)) (faults faults' : ℕ) : Type 0 where
  pub commands : List Command
  pub brings : Brings kept piece commands
  pub leaves : Leaves kept piece kept'
  pub few : length commands ≤ length piece
  pub answers : Answers whole ready old new commands held held' faults faults'

-- after any bytes of whose unfinished line this is kept, one of the lines that the piece ends was cut, or sending on the replies
-- to all failed
abbrev pub CutsPiece : {B : Type 0} → ((ControlValue × B) → (ControlValue × B) → List Command → List ℕ → Type 0)
    → ((ControlValue × B) → (ControlValue × B) → List Command → List ℕ → Type 0)
    → ((ControlValue × B) → Type 0) → (ControlValue × B) → (ControlValue × B) → Option (List ℕ) → List ℕ → Option (List ℕ)
    → Option (List ℕ) → ℕ → ℕ → Type 0
CutsPiece whole cut ready old new kept piece held held' faults faults' =
    (taken : List ℕ) → kept ≡ kept_of (unfinished_line taken)
    → (commands : List Command) × (whole_commands (taken ++ piece) ≡ whole_commands taken ++ commands)
    × AnswersCut (stopped whole cut) ready old new commands held held' faults faults'

-- at the end of the input these commands, one or none, were answered, or the sink failed
abbrev pub EndsInput : {B : Type 0} → ((ControlValue × B) → (ControlValue × B) → List Command → List ℕ → Type 0)
    → ((ControlValue × B) → (ControlValue × B) → List Command → List ℕ → Type 0)
    → ((ControlValue × B) → Type 0) → (ControlValue × B) → (ControlValue × B) → List Command → Option (List ℕ) → Option (List ℕ) → ℕ → ℕ
    → End → Type 0
EndsInput whole cut ready old new commands held held' faults faults' end.Done = Answers whole ready old new commands held held' faults
    faults'
EndsInput whole cut ready old new commands held held' faults faults' end.WriteFault = AnswersCut (stopped whole cut) ready old new commands
    held held' faults faults'
EndsInput whole cut ready old new commands held held' faults faults' end.ReadFault = ⊥
EndsInput whole cut ready old new commands held held' faults faults' end.TooLong = ⊥
