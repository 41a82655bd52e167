-- What a session that keeps its bookings promises of each line: the replies, the book, and the rows beside it.
use Rattle.std.specs.Prelude.{◌≡◌, List, Option, ℕ}
use Rattle.nrm_control.specs.State.{SeatState}
use Rattle.nrm_control.specs.Standing.{ControlValue, Represents}
use Rattle.nrm_stream.specs.declared.command.Command.{Command}
use Rattle.nrm_session.specs.Replies.{Reply}
use Rattle.nrm_session.specs.Step.{Step}
use Rattle.nrm_keeper.specs.declared.keeper.Keeper.{Ghosts}
use Rattle.nrm_keeper.specs.declared.row.KeptRow.{KeptRow}
use Rattle.nrm_kept_cli.specs.Inner.Reading.{HoweverRead}
use Rattle.nrm_kept_cli.specs.Rows.{AreRows}
use Rattle.nrm_kept_cli.specs.Run.{KeptWrites, KeptWritesCut}

-- if the rows were those of the book, they still are
abbrev pub StaysWithBook : ControlValue → ControlValue → Option (List KeptRow) → Option (List KeptRow) → Type 0
StaysWithBook old new rows rows' = AreRows old.net old.bookings rows → AreRows new.net new.bookings rows'

-- The network stays. However the rows are read, if they were those of the book, they still are. From each state that the controller
-- represented, a run over the commands gives this output, and the controller represents the run's last state.
pub record KeptRefines {P : Type 0} (keeps : Ghosts P) (old new : ControlValue × P) (commands : List Command) (output : List ℕ) : Type 0 where
  pub network : new.0.net ≡ old.0.net
  pub stays : HoweverRead keeps (StaysWithBook old.0 new.0) old.1 new.1
  pub run : (s : SeatState) → Represents old.0 s
      → (s' : SeatState) × Represents new.0 s' × KeptWrites old.0.net s commands output s' (keeps.faults old.1) (keeps.faults new.1)

-- the same of a run that was cut in a reply
pub record KeptRefinesCut {P : Type 0} (keeps : Ghosts P) (old new : ControlValue × P) (commands : List Command) (output : List ℕ) : Type 0 where
  pub network : new.0.net ≡ old.0.net
  pub stays : HoweverRead keeps (StaysWithBook old.0 new.0) old.1 new.1
  pub run : (s : SeatState) → Represents old.0 s
      → (s' : SeatState) × Represents new.0 s' × KeptWritesCut old.0.net s commands output s' (keeps.faults old.1) (keeps.faults new.1)

-- what a line will make of the book is kept first: if the rows were those of the book, they are those of the book after the line
abbrev pub KeepsAhead : ControlValue → Command → Option (List KeptRow) → Option (List KeptRow) → Type 0
KeepsAhead control c rows rows' =
    (s s' : SeatState) (reply : Reply) → Represents control s → Step control.net s c reply s' → AreRows control.net s.bookings rows
    → AreRows control.net s'.bookings rows'
