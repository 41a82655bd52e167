-- How the lines of a session are answered, whoever answers them: by a controller, and by what stands beside it.
use Rattle.std.specs.Prelude.{ℕ, ◌≡◌, ◌+◌, ◌≤◌, ◌⊎◌, List, [], ◌++◌, length, Option}
use Rattle.std.specs.Io.KnownBytes.{Appends}
use Rattle.nrm_edge.specs.Causes.{Rose}
use Rattle.nrm_control.specs.Standing.{ControlValue, IsControl}
use Rattle.nrm_stream.specs.declared.command.Command.{Command}
use Rattle.nrm_session.specs.Serving.{Refines, RefinesCut}

-- What it means that commands were answered with an output, whole, and that a put failed in the reply to one of them, cut: each
-- says something of what stood before, of what stands now, of the commands and of the output. No command has no output. What was
-- answered goes on by what is answered next, whole or cut. More commands may come behind the one that was cut.
pub record AreMeanings {V : Type 0} (whole cut : V → V → List Command → List ℕ → Type 0) : Type 0 where
  pub nothing : (v : V) → whole v v [] []
  pub more : (old mid new : V) (commands others : List Command) (output text : List ℕ)
      → whole old mid commands output → whole mid new others text → whole old new (commands ++ others) (output ++ text)
  pub then_cut : (old mid new : V) (commands others : List Command) (output text : List ℕ)
      → whole old mid commands output → cut mid new others text → cut old new (commands ++ others) (output ++ text)
  pub behind : (old new : V) (commands others : List Command) (output : List ℕ) → cut old new commands output
      → cut old new (commands ++ others) output

-- a put failed in the reply to one of these commands; or all of them were answered, and only sending that on failed
abbrev pub stopped : {V : Type 0} → (V → V → List Command → List ℕ → Type 0) → (V → V → List Command → List ℕ → Type 0) → V → V
    → List Command → List ℕ → Type 0
stopped whole cut old new commands output = cut old new commands output ⊎ whole old new commands output

-- the replies to these commands were written, no put failed, no more numbers were given than there are commands, and more can be answered
pub record Answers {B : Type 0} (whole : (ControlValue × B) → (ControlValue × B) → List Command → List ℕ → Type 0)
    (ready : (ControlValue × B) → Type 0)
    (old new : ControlValue × B) (commands : List Command) (held held' : Option (List ℕ)) (faults faults' : ℕ) : Type 0 where
  pub output : List ℕ
  pub written : Appends held held' output
  pub means : whole old new commands output
  pub counts : faults' ≡ faults
  pub next : new.0.next ≤ old.0.next + length commands
  pub sound : ready new

-- the replies to these commands were written as far as this means, since the sink failed
pub record AnswersCut {B : Type 0} (cut : (ControlValue × B) → (ControlValue × B) → List Command → List ℕ → Type 0)
    (ready : (ControlValue × B) → Type 0)
    (old new : ControlValue × B) (commands : List Command) (held held' : Option (List ℕ)) (faults faults' : ℕ) : Type 0 where
  pub output : List ℕ
  pub written : Appends held held' output
  pub means : cut old new commands output
  pub rose : Rose faults faults'
  pub later : faults ≤ faults'
  pub sound : ready new

-- what a controller alone means by them, whatever stands beside it
abbrev pub refines : {B : Type 0} → (ControlValue × B) → (ControlValue × B) → List Command → List ℕ → Type 0
refines old new = Refines old.0 new.0

abbrev pub refines_cut : {B : Type 0} → (ControlValue × B) → (ControlValue × B) → List Command → List ℕ → Type 0
refines_cut old new = RefinesCut old.0 new.0

-- and it is ready for more as long as it is one
abbrev pub is_control : {B : Type 0} → (ControlValue × B) → Type 0
is_control at = IsControl at.0
