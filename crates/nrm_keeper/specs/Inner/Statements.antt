-- When a statement says what it did to the rows that are told.
use Rattle.std.specs.Prelude.{◌≡◌, false}
use Rattle.sqlite.specs.State.{State}
use Rattle.nrm_keeper.specs.Steady.{IsSteady}

-- afterwards the store is clean and open, and before no transaction was open
pub record Speaks (old new : State) : Type 0 where
  pub steady : IsSteady new
  pub alone : old.in_transaction ≡ false
