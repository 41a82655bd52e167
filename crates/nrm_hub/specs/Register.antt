-- What all desks have in common: the controller, the desks by their numbers, whose the bookings are, and the rows of the journal.
use Rattle.std.specs.Prelude.{ℕ, ◌≡◌, ◌≢◌, ◌+◌, ◌<◌, ◌≤◌, Bool, true, false, List, [], ◌∷◌, ◌++◌, drop, get_or, length, nat_lt, slice_set, Option, Some, None}
use Rattle.std.specs.Prelude.{if◌then◌else◌, All, bytes_eq}
use Rattle.std.specs.List.{position_from}
use Rattle.nrm_control.specs.Standing.{ControlValue, IsControl}
use Rattle.nrm_stream.specs.Commands.{IsCommand}
use Rattle.nrm_stream.specs.declared.command.Command.{Command}
use Rattle.nrm_session.specs.Answering.{IsTellable, Steps, reply_in}
use Rattle.nrm_session.specs.Replies.{Reply, memory}
use Rattle.nrm_session.specs.declared.reply.Reply.{Reply as Answered}
use Rattle.nrm_session.specs.declared.reply.Reply.TheVariants as answered
use Rattle.nrm_hub.specs.Rows.{row_text}
use Rattle.nrm_hub.specs.declared.limits.TheConstants.{LAST_SEQUENCE, MOST_DESKS, MOST_HELD, MOST_ROWS}
use Rattle.nrm_hub.specs.declared.row.Row.{Row}

-- its name, the number that its next line may have, and its last rows, in order
pub record DeskValue : Type 0 where
  pub name : List ℕ
  pub next : ℕ
  pub held : List Row

abbrev pub new_desk : List ℕ → DeskValue
new_desk name = record { name = name; next = 1; held = [] }

-- The controller; the desks by their numbers; the number of the desk that each booking was sold to; how many rows there are, and the text of
-- those that were not given out yet.
pub record RegisterValue : Type 0 where
  pub control : ControlValue
  pub desks : List DeskValue
  pub owners : List ℕ
  pub rows : ℕ
  pub text : List ℕ

-- a register of a controller: nobody has asked anything yet
abbrev pub new_register : ControlValue → RegisterValue
new_register control = record { control = control; desks = []; owners = []; rows = 0; text = [] }

abbrev pub desk_at : RegisterValue → ℕ → DeskValue
desk_at r d = get_or r.desks d (new_desk [])

abbrev pub name_at : RegisterValue → ℕ → List ℕ
name_at r d = (desk_at r d).name

-- the number of the desk of a name
abbrev pub desk_named : RegisterValue → List ℕ → Option ℕ
desk_named r name = position_from (λ desk. bytes_eq desk.name name) 0 r.desks

-- at least the last hundred rows of a desk are held, and fewer than two hundred
abbrev pub trimmed : {A : Type 0} → List A → List A
trimmed held = if nat_lt (length held) (MOST_HELD + MOST_HELD) then held else drop MOST_HELD held

abbrev pub with_row : DeskValue → Row → DeskValue
with_row desk row = record { name = desk.name; next = row.sequence + 1; held = trimmed (desk.held ++ row ∷ []) }

-- a booking that was sold is this desk's
abbrev pub owners_after : List ℕ → ℕ → Answered → List ℕ
owners_after owners desk (answered.Sold number) = owners ++ desk ∷ []
owners_after owners desk other = owners

-- a line of a desk was carried out under the desk's own number: the controller makes the step, and the row joins the text
pub record Carries (old new : RegisterValue) (desk sequence : ℕ) (c : Command) (a : Answered) : Type 0 where
  pub steps : Steps old.control new.control c (reply_in new.control a)
  pub some : reply_in new.control a ≢ memory
  pub desks : new.desks ≡ slice_set old.desks desk (with_row (desk_at old desk) (record { sequence = sequence; command = c; reply = a }))
  pub owners : new.owners ≡ owners_after old.owners desk a
  pub rows : new.rows ≡ old.rows + 1
  pub text : new.text ≡ old.text ++ row_text (old.rows + 1) (name_at old desk) sequence c (reply_in new.control a)

-- a line was carried out that leaves no row
pub record Passes (old new : RegisterValue) (c : Command) (reply : Reply) : Type 0 where
  pub steps : Steps old.control new.control c reply
  pub rest : new ≡ record old { control = new.control }

-- the number of a desk is another one's from now on, of which nothing is known
abbrev pub renamed : RegisterValue → ℕ → List ℕ → RegisterValue
renamed r d name = record r { desks = slice_set r.desks d (new_desk name) }

-- The number of the desk of a name: the desk is there, it is added behind the others, or, where there is no room, it takes that of a spare one.
pub data Joins (spare : Option ℕ) (old : RegisterValue) (name : List ℕ) : RegisterValue → ℕ → Type 0 where
  there : (d : ℕ) → desk_named old name ≡ Some d → Joins spare old name old d
  added : desk_named old name ≡ None → Joins spare old name (record old { desks = old.desks ++ new_desk name ∷ [] }) (length old.desks)
  replaced : (d : ℕ) → desk_named old name ≡ None → MOST_DESKS ≤ length old.desks → spare ≡ Some d → Joins spare old name (renamed old d name) d

-- a reply that a row may have: of one line, and the same however things stand later
abbrev pub is_of_row : Answered → Bool
is_of_row answered.Bad = false
is_of_row answered.Memory = false
is_of_row (answered.Hindsight num den revenue withheld) = false
is_of_row (answered.Leg leg) = false
is_of_row answered.Plan = false
is_of_row other = true

-- a row that can be told again
pub record IsTold (control : ControlValue) (row : Row) : Type 0 where
  pub tellable : IsTellable control.net row.reply
  pub line : is_of_row row.reply ≡ true
  pub command : IsCommand row.command

-- a desk of a register: its next number is within the limits, and its rows can be told again
pub record IsDesk (control : ControlValue) (desk : DeskValue) : Type 0 where
  pub next : desk.next ≤ LAST_SEQUENCE + 1
  pub few : length desk.held < MOST_HELD + MOST_HELD
  pub told : All (IsTold control) desk.held

-- what holds of each register: no more bookings were sold than there are rows, no more rows and desks are there than may be, and each desk is one
pub record IsRegister (r : RegisterValue) : Type 0 where
  pub control : IsControl r.control
  pub next : r.control.next ≤ r.rows + 1
  pub rows : r.rows ≤ MOST_ROWS
  pub few : length r.desks ≤ MOST_DESKS
  pub desks : All (IsDesk r.control) r.desks
