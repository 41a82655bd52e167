-- A whole session: one reply and one next state for each command.
use Rattle.std.specs.Prelude.{ℕ, ◌≡◌, List, [], ◌∷◌, flat_map}
use Rattle.nrm_model.specs.Network.{NetworkValue}
use Rattle.nrm_control.specs.State.{SeatState}
use Rattle.nrm_stream.specs.declared.command.Command.{Command}
use Rattle.nrm_session.specs.Replies.{Reply, text_of}
use Rattle.nrm_session.specs.Step.{Step}

-- These replies may be given to these commands, one step after another, from s to s'. A step says which reply may be given to a command
-- in a state, and which state comes after it.
abbrev pub RunBy : {R : Type 0} → (SeatState → Command → R → SeatState → Type 0) → SeatState → List Command → List R → SeatState → Type 0
RunBy step s [] [] s' = s' ≡ s
RunBy step s (command ∷ commands) (reply ∷ replies) s' =
    (mid : SeatState) × step s command reply mid × RunBy step mid commands replies s'
RunBy step s [] (reply ∷ replies) s' = ⊥
RunBy step s (command ∷ commands) [] s' = ⊥

-- these bytes are the texts of the replies of such a run over the commands, one after another, and it ends in s'
pub record WritesBy {R : Type 0} (step : SeatState → Command → R → SeatState → Type 0) (text : R → List ℕ) (s : SeatState)
    (commands : List Command) (bytes : List ℕ) (s' : SeatState) : Type 0 where
  pub replies : List R
  pub run : RunBy step s commands replies s'
  pub output : bytes ≡ flat_map text replies

-- the controller may give these replies to these commands, one step after another
abbrev pub Run : NetworkValue → SeatState → List Command → List Reply → SeatState → Type 0
Run net = RunBy (Step net)

-- these bytes are the output of a run over the commands, which ends in s'
abbrev pub Writes : NetworkValue → SeatState → List Command → List ℕ → SeatState → Type 0
Writes net = WritesBy (Step net) text_of
