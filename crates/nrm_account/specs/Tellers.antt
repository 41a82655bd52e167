-- What a teller promises of each line.
use Rattle.std.specs.Prelude.{ℕ, ◌≡◌, ◌+◌, ◌-◌, ◌<◌, ◌≤◌, ◌^◌, Bool, List, ◌++◌, take}
use Rattle.nrm_control.specs.State.{SeatState}
use Rattle.nrm_control.specs.Standing.{ControlValue, IsControl, Represents}
use Rattle.nrm_stream.specs.declared.command.Command.{Command}
use Rattle.nrm_session.specs.Answering.{Steps}
use Rattle.nrm_session.specs.Replies.{Reply}
use Rattle.nrm_account.specs.Readings.{Reading, Reads, planned_by}
use Rattle.nrm_account.specs.declared.teller.Teller.{Teller}

-- a reading in a state, as a teller has it
abbrev pub reading_of : SeatState → Teller → Reading
reading_of s teller = record { state = s; left = teller.left; planned = teller.planned; ran_out = teller.ran_out }

-- the teller after the reply to a line
abbrev pub passed : Teller → Reply → Bool → Teller
passed teller reply ran_out = record {
  asked = teller.asked;
  left = teller.left - 1;
  planned = planned_by reply (teller.asked - teller.left + 1) teller.planned;
  ran_out = ran_out;
}

-- a teller can go on: no more lines are left than were asked for
abbrev pub can_tell : (ControlValue × Teller) → Type 0
can_tell at = IsControl at.0 × (at.1.left ≤ at.1.asked) × (at.1.asked < 2 ^ 63)

-- The network stays, and the line that is asked for. From each state that the controller represented, the commands are read with this
-- output, and the controller represents the state that they are read to.
pub record Tells (old new : ControlValue × Teller) (commands : List Command) (output : List ℕ) : Type 0 where
  pub network : new.0.net ≡ old.0.net
  pub asked : new.1.asked ≡ old.1.asked
  pub run : (s : SeatState) → Represents old.0 s
      → (s' : SeatState) × Represents new.0 s' × Reads old.0.net old.1.asked (reading_of s old.1) commands output (reading_of s' new.1)

-- the same of some first of the commands, of whose output a front was written
pub record TellsCut (old new : ControlValue × Teller) (commands : List Command) (output : List ℕ) : Type 0 where
  pub done : List Command
  pub after : List Command
  pub commands_are : commands ≡ done ++ after
  pub whole : List ℕ
  pub count : ℕ
  pub front : output ≡ take count whole
  pub tells : Tells old new done whole

-- a line was carried out, and the teller passed it
pub record Passes (old new : ControlValue × Teller) (c : Command) (reply : Reply) (ran_out : Bool) : Type 0 where
  pub steps : Steps old.0 new.0 c reply
  pub teller : new.1 ≡ passed old.1 reply ran_out
  pub sound : IsControl new.0
