-- A statement, and one after another, over a store that is clean and open at the end.
use Rattle.std.proofs.Common.{◌≡◌, ◌≤◌, false, arith}
use Rattle.sqlite_trees.specs.View.{doubt}
use Rattle.sqlite.specs.State.{State, HasCleanDisk}
use Rattle.nrm_keeper.specs.Steady.{IsSteady}
use Rattle.nrm_keeper.specs.Inner.Statements.{Speaks}

pub was_clean : (old new : State) → doubt old.is_clean ≤ doubt new.is_clean → HasCleanDisk new → HasCleanDisk old
was_clean old new grows clean = omega (arith, grows, clean)

-- of two statements the first speaks, and so does the second, if no transaction is open between them
pub first : (old mid new : State) → (IsSteady new → IsSteady mid) → Speaks old new → Speaks old mid
first old mid new was speaks = record { steady = was speaks.steady; alone = speaks.alone }

pub second : (old mid new : State) → mid.in_transaction ≡ false → Speaks old new → Speaks mid new
second old mid new alone speaks = record { steady = speaks.steady; alone = alone }
