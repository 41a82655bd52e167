-- A whole session that keeps its bookings: one reply and one next state for each command.
use Rattle.std.specs.Prelude.{ℕ, ◌≡◌, List, [], ◌∷◌, ◌++◌}
use Rattle.nrm_edge.specs.Causes.{one_more}
use Rattle.nrm_model.specs.Network.{NetworkValue}
use Rattle.nrm_control.specs.State.{SeatState}
use Rattle.nrm_stream.specs.declared.command.Command.{Command}
use Rattle.nrm_session.specs.Run.{RunBy, WritesBy}
use Rattle.nrm_session.specs.Serving.{CutBy}
use Rattle.nrm_kept_cli.specs.Step.{KeptReply, KeptStep, told, store, kept_text}

-- the controller may give these replies to these commands, one step after another
abbrev pub KeptRun : NetworkValue → SeatState → List Command → List KeptReply → SeatState → Type 0
KeptRun net = RunBy (KeptStep net)

-- the store's count of faults after some replies: one more for each `store`, and no more than the last value of u64
abbrev pub count_after : List KeptReply → ℕ → ℕ
count_after [] count = count
count_after (told reply ∷ replies) count = count_after replies count
count_after (store ∷ replies) count = count_after replies (one_more count)

-- these bytes are the output of such a run over the commands, which ends in s'; and the store's count rose with each `store` alone
pub record KeptWrites (net : NetworkValue) (s : SeatState) (commands : List Command) (bytes : List ℕ) (s' : SeatState)
    (before now : ℕ) : Type 0 where
  pub writes : WritesBy (KeptStep net) kept_text s commands bytes s'
  pub counted : now ≡ count_after writes.replies before

-- of these commands one was cut in its reply, and s' is the state after it
pub record KeptWritesCut (net : NetworkValue) (s : SeatState) (commands : List Command) (bytes : List ℕ) (s' : SeatState)
    (before now : ℕ) : Type 0 where
  pub writes : CutBy (KeptStep net) kept_text s commands bytes s'
  pub counted : now ≡ count_after (writes.replies ++ writes.reply ∷ []) before
