-- The world of desks: the hub, and what has been. It is what a reader must believe; the theorem above it is in `Desks`.
use Rattle.std.specs.Prelude.{ℕ, ◌≡◌, ◌≢◌, ◌==◌, ◌+◌, ◌<◌, ◌≤◌, ◌⊎◌, true, false, List, [], ◌∷◌, ◌++◌, All, length, replicate, take, Option, Some, None, ⊤, if◌then◌else◌}
use Rattle.nrm_control.specs.Standing.{ControlValue}
use Rattle.nrm_frames.specs.Frames.{Frame}
use Rattle.nrm_frames.specs.Outgoing.{Output, close, keep, ready, send}
use Rattle.nrm_frames.specs.declared.header.Header.{Header}
use Rattle.nrm_frames.specs.declared.header.Header.TheVariants as header
use Rattle.nrm_frames.specs.declared.rights.Rights.{Rights}
use Rattle.nrm_frames.specs.declared.why.Why.{Why}
use Rattle.nrm_frames.specs.declared.why.Why.TheVariants as why
use Rattle.nrm_stream.specs.declared.command.Command.{Command}
use Rattle.nrm_session.specs.Answering.{reply_in}
use Rattle.nrm_hub.specs.Asked.{asked_in, is_change}
use Rattle.nrm_hub.specs.Clients.{ClientValue, after_telling, joined_as, new_client, with_piece}
use Rattle.nrm_hub.specs.Hub.{HubValue, alone, client_at, new_hub, seated_after, takes_frames, takes_lines, with_client, with_closed}
use Rattle.nrm_hub.specs.Lines.{How}
use Rattle.nrm_hub.specs.Register.{Carries, Joins, RegisterValue, desk_at, name_at}
use Rattle.nrm_hub.specs.Rows.{Entry, rows_text}
use Rattle.nrm_hub.specs.Spare.{IsSpare}
use Rattle.nrm_hub.specs.Taking.{TakesLine}
use Rattle.nrm_hub.specs.Waiting.{HadTurn, IsTold, OfEach}
use Rattle.nrm_hub.specs.declared.limits.TheConstants.{MOST_LINE, MOST_OPENED, MOST_WAITING}
use Rattle.nrm_hub.specs.declared.asked.Asked.{Asked}
use Rattle.nrm_hub.specs.declared.asked.Asked.TheVariants as asked
use Rattle.nrm_hub.specs.declared.phase.Phase.TheVariants as phase

-- A line of a client that was answered: the client's serial number, its desk and that desk's own number of the line, the line, what became of it,
-- and the text of its reply.
pub record Exchange : Type 0 where
  pub client : ℕ
  pub desk : List ℕ
  pub sequence : ℕ
  pub line : List ℕ
  pub how : How
  pub text : List ℕ

-- The hub; the frames that came and those that were written; the rows that were given again; the lines that were answered, in their order;
-- and, of each client by its serial number, what came from it, what was sent to it, and how many of its bytes were said to be used. Of the lines,
-- so many stand before the last word that all is kept.
pub record World : Type 0 where
  pub hub : HubValue
  pub inputs : List Frame
  pub outputs : List Output
  pub again : List Entry
  pub answered : List Exchange
  pub came : ℕ → List ℕ
  pub sent : ℕ → List ℕ
  pub used : ℕ → ℕ
  pub safe : ℕ

-- nothing has been yet
abbrev pub beginning : ControlValue → World
beginning control =
    record { hub = new_hub control; inputs = []; outputs = []; again = []; answered = []; came = λ k. []; sent = λ k. []; used = λ k. 0; safe = 0 }

-- a function that is changed at one number
abbrev pub at_one : {A : Type 0} → (ℕ → A) → ℕ → A → ℕ → A
at_one f k value = λ other. if k == other then value else f other

abbrev pub frame : Header → List ℕ → Frame
frame h payload = record { header = h; payload = payload }

-- a frame came, and the hub is this one after it
abbrev pub after_frame : World → Frame → HubValue → World
after_frame w f hub = record w { hub = hub; inputs = w.inputs ++ f ∷ [] }

-- a frame was written
abbrev pub after_output : World → Output → HubValue → World
after_output w output hub = record w { hub = hub; outputs = w.outputs ++ output ∷ [] }

-- a client is opened at a place
abbrev pub with_opened : World → ℕ → List ℕ → Rights → World
with_opened w place name rights =
    after_frame w (frame (header.Open place name rights) [])
    (record (with_client w.hub place (Some (new_client w.hub.opened name rights))) { opened = w.hub.opened + 1 })

-- a piece came from the client at a place
abbrev pub with_piece_of : World → ℕ → ClientValue → List ℕ → World
with_piece_of w place c piece =
    let came = at_one w.came c.serial (w.came c.serial ++ piece) in
    record (after_frame w (frame (header.Came place (length piece)) piece) (with_client w.hub place (Some (with_piece c piece)))) { came = came }

-- the name of a client's desk, once it has one
abbrev pub desk_name : RegisterValue → Option ℕ → List ℕ
desk_name r None = []
desk_name r (Some d) = name_at r d

-- a line of a client was answered
abbrev pub exchange_of : RegisterValue → ClientValue → ClientValue → List ℕ → How → List ℕ → Exchange
exchange_of r c c' line how text =
    record { client = c.serial; desk = desk_name r c'.desk; sequence = c.number; line = line; how = how; text = text }

abbrev pub with_answered : World → ℕ → RegisterValue → Option ℕ → ClientValue → Exchange → World
with_answered w place r desk c exchange =
    record w { hub = record w.hub { clients = seated_after w.hub.clients place desk c; register = r; phase = phase.Answering }; answered = w.answered ++ exchange ∷ [] }

-- a client became a desk, whose next line has the number that is next
abbrev pub with_desk : World → ℕ → ClientValue → ℕ → RegisterValue → World
with_desk w place c d r =
    record w { hub = record w.hub { clients = alone w.hub.clients place (joined_as c d (desk_at r d).next) (Some d); register = r; phase = phase.Answering } }

-- rows were given again: each is carried out under the number that it has, for the desk of its name, and leaves just this row
pub data GivesAgain : RegisterValue → List Entry → RegisterValue → Type 0 where
  none : (r : RegisterValue) → GivesAgain r [] r
  next : (r joined mid r' : RegisterValue) (d sequence : ℕ) (name : List ℕ) (command : Command) (reply : _) (more : List Entry)
      → Joins None r name joined d → is_change command ≡ true → (desk_at joined d).next ≤ sequence → Carries joined mid d sequence command reply
      → GivesAgain (record mid { text = [] }) more r'
      → GivesAgain r (record { desk = name; sequence = sequence; command = command; reply = reply_in mid.control reply } ∷ more) r'

-- a client that is not there, or is to be closed
abbrev pub TakesNothing : Option ClientValue → Type 0
TakesNothing None = ⊤
TakesNothing (Some c) = c.closing ≢ None

-- a frame that changes nothing, since it is for such a client
abbrev pub IsNothing : HubValue → Header → Type 0
IsNothing hub (header.Came place size) = TakesNothing (client_at hub place)
IsNothing hub (header.Gone place) = TakesNothing (client_at hub place)
IsNothing hub other = ⊥

-- more bytes came than may wait, or memory ran out for them
abbrev pub IsTooMuch : ClientValue → List ℕ → Why → Type 0
IsTooMuch c piece why.Window = MOST_WAITING < length c.coming + length piece
IsTooMuch c piece why.Memory = ⊤
IsTooMuch c piece other = ⊥

-- a line that is no greeting
abbrev pub IsNoGreeting : Asked → Type 0
IsNoGreeting (asked.Greeting name number) = ⊥
IsNoGreeting other = ⊤

-- What may happen, from one world to the next.
pub data Happens (w : World) : World → Type 0 where
  -- rows are given again, until there are no more; clients may come once that is said
  rows_again : (payload : List ℕ) (rows : List Entry) (r : RegisterValue) → w.hub.phase ≡ phase.Replaying → payload ≢ []
      → payload ≡ rows_text w.hub.register.rows rows → GivesAgain w.hub.register rows r
      → Happens w (record (after_frame w (frame (header.Again (length payload)) payload) (record w.hub { register = r })) { again = w.again ++ rows })
  readied : w.hub.phase ≡ phase.Replaying
      → Happens w (after_output (after_frame w (frame (header.Again 0) []) w.hub) (ready w.hub.register.rows) (record w.hub { phase = phase.Settled }))
  -- places that nobody is at are added; clients come and go; what comes for a place where nobody is, or one who is to be closed, is nothing
  places_made : (count : ℕ) → takes_frames w.hub.phase ≡ true
      → Happens w (record w { hub = record w.hub { clients = w.hub.clients ++ replicate count None } })
  opened : (place : ℕ) (name : List ℕ) (rights : Rights) → takes_frames w.hub.phase ≡ true → place < length w.hub.clients
      → client_at w.hub place ≡ None → Happens w (with_opened w place name rights)
  -- memory ran out for a place, or there are no more serial numbers
  was_not_opened : (place : ℕ) (name : List ℕ) (rights : Rights) → takes_frames w.hub.phase ≡ true
      → (length w.hub.clients ≤ place) ⊎ (MOST_OPENED ≤ w.hub.opened) → client_at w.hub place ≡ None
      → Happens w (after_output (after_frame w (frame (header.Open place name rights) []) w.hub) (close place why.Memory) w.hub)
  piece_came : (place : ℕ) (c : ClientValue) (piece : List ℕ) → takes_frames w.hub.phase ≡ true → client_at w.hub place ≡ Some c
      → c.closing ≡ None → length c.coming + length piece ≤ MOST_WAITING → Happens w (with_piece_of w place c piece)
  passed_over : (f : Frame) → takes_frames w.hub.phase ≡ true → IsNothing w.hub f.header → Happens w (after_frame w f w.hub)
  left : (place : ℕ) (c : ClientValue) → takes_frames w.hub.phase ≡ true → client_at w.hub place ≡ Some c → c.closing ≡ None
      → Happens w (after_frame w (frame (header.Gone place) []) (with_closed w.hub place c why.Gone))
  too_much_came : (place : ℕ) (c : ClientValue) (piece : List ℕ) (reason : Why) → takes_frames w.hub.phase ≡ true
      → client_at w.hub place ≡ Some c → c.closing ≡ None → IsTooMuch c piece reason
      → Happens w (after_frame w (frame (header.Came place (length piece)) piece) (with_closed w.hub place c reason))
  -- a line of a client is taken, while the word that all is kept isn't awaited; one that is too long closes it
  too_long : (place : ℕ) (c : ClientValue) → takes_lines w.hub.phase ≡ true → client_at w.hub place ≡ Some c → c.closing ≡ None
      → MOST_LINE ≤ length c.coming → All (λ byte. (byte == 10) ≡ false) (take MOST_LINE c.coming)
      → Happens w (record w { hub = with_closed w.hub place c why.Long })
  -- a client that is no desk becomes one by its own name, for a line that is no greeting
  becomes_desk : (place : ℕ) (c : ClientValue) (line rest : List ℕ) (d : ℕ) (r : RegisterValue) → takes_lines w.hub.phase ≡ true
      → client_at w.hub place ≡ Some c → c.closing ≡ None → c.desk ≡ None → c.coming ≡ line ++ 10 ∷ rest
      → All (λ byte. (byte == 10) ≡ false) line → IsNoGreeting (asked_in line) → (spare : Option ℕ)
      → IsSpare w.hub.register w.hub.clients spare → Joins spare w.hub.register c.name r d → Happens w (with_desk w place c d r)
  line_taken : (place : ℕ) (c c' : ClientValue) (line rest : List ℕ) (r : RegisterValue) (how : How) (text : List ℕ)
      → takes_lines w.hub.phase ≡ true → client_at w.hub place ≡ Some c → c.closing ≡ None → c.coming ≡ line ++ 10 ∷ rest
      → All (λ byte. (byte == 10) ≡ false) line → length line < MOST_LINE → (spare : Option ℕ)
      → (c.desk ≡ None → IsSpare w.hub.register w.hub.clients spare) → TakesLine spare w.hub.register c line rest r c' how text
      → Happens w (with_answered w place r c.desk c' (exchange_of r c c' line how text))
  -- once each client had its turn, the rows of all lines that were answered are given out; and then they are said to be kept
  asked_to_keep : w.hub.phase ≡ phase.Answering → OfEach HadTurn w.hub
      → Happens w (after_output w (keep w.hub.register.text) (record w.hub { register = record w.hub.register { text = [] }; phase = phase.Asked }))
  said_to_be_kept : w.hub.phase ≡ phase.Asked
      → Happens w (record (after_frame w (frame header.Kept []) (record w.hub { phase = phase.Telling })) { safe = length w.answered })
  -- what waits for each client is sent, and behind it who is to be closed is closed, before anything else
  was_told : (place : ℕ) (c : ClientValue) → client_at w.hub place ≡ Some c → w.hub.phase ≡ phase.Telling
      → Happens w (record (after_output w (send place c.used c.told) (with_client w.hub place (Some (after_telling c)))) {
        sent = at_one w.sent c.serial (w.sent c.serial ++ c.told);
        used = at_one w.used c.serial (w.used c.serial + c.used);
      })
  was_closed : (place : ℕ) (c : ClientValue) (reason : Why) → client_at w.hub place ≡ Some c → c.closing ≡ Some reason
      → c.told ≡ [] → c.used ≡ 0 → w.hub.phase ≡ phase.Telling
      → Happens w (after_output w (close place reason) (with_client w.hub place None))
  all_told : w.hub.phase ≡ phase.Telling → OfEach IsTold w.hub → Happens w (record w { hub = record w.hub { phase = phase.Settled } })
  -- the last frame
  ended : w.hub.phase ≢ phase.Telling → Happens w (after_frame w (frame header.End []) (record w.hub { phase = phase.Ended }))

-- and so on
pub data Comes (start : World) : World → Type 0 where
  here : Comes start start
  then : (w w' : World) → Comes start w → Happens w w' → Comes start w'
