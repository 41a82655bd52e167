-- Rows of the journal that are given again.
use Rattle.std.specs.Prelude.{ℕ, ◌≡◌, ◌≢◌, ◌==◌, ◌+◌, ◌<◌, ◌≤◌, List, [], ◌∷◌, ◌++◌, Option, Some, None, All, false, length, if◌then◌else◌}
use Rattle.std.specs.List.{slice_split}
use Rattle.nrm_text.specs.Names.{name_in}
use Rattle.nrm_text.specs.Numbers.{whole_between}
use Rattle.nrm_stream.specs.Commands.{command_of}
use Rattle.nrm_stream.specs.declared.command.Command.{Command}
use Rattle.nrm_session.specs.Answering.{reply_in}
use Rattle.nrm_session.specs.declared.reply.Reply.{Reply as Answered}
use Rattle.nrm_hub.specs.Asked.{is_change}
use Rattle.nrm_hub.specs.Register.{Carries, Joins, RegisterValue, desk_at, desk_named}
use Rattle.nrm_hub.specs.Rows.{Entry, row_text, rows_text}
use Rattle.nrm_hub.specs.World.{GivesAgain}
use Rattle.nrm_hub.specs.declared.again.AgainFault.{AgainFault}
use Rattle.nrm_hub.specs.declared.again.AgainFault.TheVariants as fault
use Rattle.nrm_hub.specs.declared.limits.TheConstants.{LAST_SEQUENCE, MOST_DESKS, MOST_ROWS}

-- a row as it is read: its number, the desk's name, the desk's own number, and the command; its reply isn't read, but compared
pub record RowRead : Type 0 where
  pub number : ℕ
  pub name : List ℕ
  pub sequence : ℕ
  pub command : Command

abbrev pub row_with : Option ℕ → Option (List ℕ) → Option ℕ → Command → Option RowRead
row_with (Some number) (Some name) (Some sequence) c =
    if is_change c then Some (record { number = number; name = name; sequence = sequence; command = c }) else None
row_with number name sequence c = None

abbrev pub row_of_fields : List (List ℕ) → Option RowRead
row_of_fields (number ∷ name ∷ sequence ∷ command ∷ reply ∷ more) =
    row_with (whole_between 1 MOST_ROWS number) (name_in name) (whole_between 1 LAST_SEQUENCE sequence) (command_of command)
row_of_fields other = None

abbrev pub row_of : List ℕ → Option RowRead
row_of line = row_of_fields (slice_split (λ c. c == 9) line)

-- A row that is read can't be the next one of a register: its number isn't the next, the desk's own number was used, or there are as many rows or
-- desks as there may be.
pub data IsNotNext (r : RegisterValue) (row : RowRead) : Type 0 where
  other_number : row.number ≢ r.rows + 1 → IsNotNext r row
  used : (joined : RegisterValue) (d : ℕ) → Joins None r row.name joined d → row.sequence < (desk_at joined d).next → IsNotNext r row
  many_rows : MOST_ROWS ≤ r.rows → IsNotNext r row
  many_desks : desk_named r row.name ≡ None → MOST_DESKS ≤ length r.desks → IsNotNext r row

-- Why the bytes behind some rows aren't given again: no whole line stands there, or it is no row, or not the next one; or it was carried out, and
-- the row that this gives is another one; or memory runs out.
pub data StopsAt (r : RegisterValue) (rest : List ℕ) : AgainFault → Type 0 where
  unended : rest ≢ [] → All (λ c. (c == 10) ≡ false) rest → StopsAt r rest (fault.NoRow (r.rows + 1))
  no_row : (line behind : List ℕ) → rest ≡ line ++ 10 ∷ behind → row_of line ≡ None → StopsAt r rest (fault.NoRow (r.rows + 1))
  not_next : (line behind : List ℕ) (row : RowRead) → rest ≡ line ++ 10 ∷ behind → row_of line ≡ Some row → IsNotNext r row
      → StopsAt r rest (fault.NoRow (r.rows + 1))
  other : (line behind : List ℕ) (row : RowRead) (joined mid : RegisterValue) (d : ℕ) (reply : Answered) → rest ≡ line ++ 10 ∷ behind
      → row_of line ≡ Some row → Joins None r row.name joined d → Carries joined mid d row.sequence row.command reply
      → line ++ 10 ∷ [] ≢ row_text (r.rows + 1) row.name row.sequence row.command (reply_in mid.control reply)
      → StopsAt r rest (fault.Differs (r.rows + 1))
  no_memory : StopsAt r rest fault.NoMemory

-- some first rows were given again, and it stops behind them
pub record FailsAgain (r : RegisterValue) (payload : List ℕ) (why : AgainFault) : Type 0 where
  pub rows : List Entry
  pub mid : RegisterValue
  pub rest : List ℕ
  pub again : GivesAgain r rows mid
  pub payload_is : payload ≡ rows_text r.rows rows ++ rest
  pub stops : StopsAt mid rest why
