-- Which line made the plan that is in force.
use Rattle.std.specs.Prelude.{ℕ, ◌≡◌, ◌+◌, List, ◌∷◌, ◌++◌, length}
use Rattle.nrm_model.specs.Network.{NetworkValue}
use Rattle.nrm_control.specs.State.{SeatState}
use Rattle.nrm_stream.specs.declared.command.Command.{Command}
use Rattle.nrm_stream.specs.declared.command.Command.TheVariants as command
use Rattle.nrm_session.specs.Replies.{Reply}
use Rattle.nrm_session.specs.Run.{Run}
use Rattle.nrm_session.specs.Step.{Step}
use Rattle.nrm_account.specs.Readings.{IsAccountOf, planned_after}

-- The plan of a state that some commands came to is the opening's, and its line is told as 0; or it is the one that a reoptimisation among the
-- commands left, and its line is told.
pub data IsPlannedBy (net : NetworkValue) (start : SeatState) (commands : List Command) (state : SeatState) : ℕ → Type 0 where
  by_opening : state.plan ≡ start.plan → IsPlannedBy net start commands state 0
  by_line : (first rest : List Command) (period : ℕ) (replies : List Reply) (reply : Reply) (mid made : SeatState)
      → commands ≡ first ++ command.Reoptimise period ∷ rest → Run net start first replies mid → Step net mid (command.Reoptimise period) reply made
      → state.plan ≡ made.plan → IsPlannedBy net start commands state (length first + 1)

-- THE LAW: so is the line that an account tells as the one that made its plan.
abbrev pub PlannedByThatLine : Type 0
PlannedByThatLine = (net : NetworkValue) (start : SeatState) (asked : ℕ) (commands : List Command) (text : List ℕ)
    → (account : IsAccountOf net start asked commands text)
    → IsPlannedBy net start account.before account.state (planned_after account.replies 1 0)
