-- What private functions do with rows that are given again.
use Rattle.std.specs.Prelude.{ℕ, ◌≡◌, ◌+◌, ◌≤◌, true, List, Option, Some, None, ⊤}
use Rattle.nrm_stream.specs.Commands.{IsCommand}
use Rattle.nrm_session.specs.declared.reply.Reply.{Reply as Answered}
use Rattle.nrm_hub.specs.Again.{IsNotNext, RowRead}
use Rattle.nrm_hub.specs.Asked.{is_change}
use Rattle.nrm_hub.specs.Register.{Carries, Joins, RegisterValue, desk_at}
use Rattle.nrm_hub.specs.Rows.{Entry, rows_text}
use Rattle.nrm_hub.specs.World.{GivesAgain}
use Rattle.nrm_hub.specs.declared.again.AgainFault.{AgainFault}
use Rattle.nrm_hub.specs.declared.again.AgainFault.TheVariants as fault
use Rattle.nrm_hub.specs.declared.again.ReadRow.{ReadRow}
use Rattle.nrm_hub.specs.declared.limits.TheConstants.{LAST_SEQUENCE}

-- a row as the code has it
abbrev pub read_as : ReadRow → RowRead
read_as row = record { number = row.number; name = row.name; sequence = row.sequence; command = row.command }

abbrev pub IsParsed : Option RowRead → Option ReadRow → Type 0
IsParsed is (Some row) = is ≡ Some (read_as row)
IsParsed is None = is ≡ None

-- it can be carried out
pub record IsReadRow (row : ReadRow) : Type 0 where
  pub command : IsCommand row.command
  pub changes : is_change row.command ≡ true
  pub sequence : row.sequence ≤ LAST_SEQUENCE

-- a row was carried out
pub record CarriesRow (old new : RegisterValue) (row : ReadRow) : Type 0 where
  pub joined : RegisterValue
  pub desk : ℕ
  pub reply : Answered
  pub joins : Joins None old row.name joined desk
  pub next : (desk_at joined desk).next ≤ row.sequence
  pub carries : Carries joined new desk row.sequence row.command reply

-- why it wasn't
abbrev pub IsRowFault : RegisterValue → ReadRow → AgainFault → Type 0
IsRowFault r row (fault.NoRow number) = (number ≡ r.rows + 1) × IsNotNext r (read_as row)
IsRowFault r row (fault.Differs number) = ⊥
IsRowFault r row fault.NoMemory = ⊤

-- rows were given again
pub record RowsAgain (old new : RegisterValue) (payload : List ℕ) : Type 0 where
  pub rows : List Entry
  pub again : GivesAgain old rows new
  pub payload_is : payload ≡ rows_text old.rows rows
