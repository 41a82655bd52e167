-- The theorem of many desks, to be read aloud.
use Rattle.std.specs.Prelude.{ℕ, ◌≡◌, ◌==◌, ◌+◌, ◌<◌, ◌≤◌, Bool, true, false, List, [], ◌∷◌, ◌++◌, AllPairs, All, bytes_eq, filter, flat_map, length, map, take, Option, Some, None, ⊤}
use Rattle.nrm_model.specs.Network.{NetworkValue}
use Rattle.nrm_control.specs.State.{SeatState}
use Rattle.nrm_control.specs.Standing.{ControlValue, IsControl, Represents}
use Rattle.nrm_frames.specs.Outgoing.{Output, keep}
use Rattle.nrm_frames.specs.Frames.{Frame}
use Rattle.nrm_frames.specs.declared.header.Header.{Header}
use Rattle.nrm_frames.specs.declared.header.Header.TheVariants as header
use Rattle.nrm_stream.specs.Lines.{whole_lines}
use Rattle.nrm_stream.specs.declared.command.Command.{Command}
use Rattle.nrm_session.specs.Answering.{reply_in}
use Rattle.nrm_session.specs.Replies.{Reply, sold, text_of}
use Rattle.nrm_session.specs.Run.{Run}
use Rattle.nrm_hub.specs.Asked.{allows, asked_in}
use Rattle.nrm_hub.specs.Clients.{ClientValue}
use Rattle.nrm_hub.specs.Hub.{client_at}
use Rattle.nrm_hub.specs.Lines.{How, carried, denied_line, otherwise, passed, repeated, told_text}
use Rattle.nrm_hub.specs.Register.{DeskValue, RegisterValue, desk_at, name_at, trimmed}
use Rattle.nrm_hub.specs.Rows.{Entry, rows_text}
use Rattle.nrm_hub.specs.Taking.{TakesLine, may_greet}
use Rattle.nrm_hub.specs.Waiting.{IsTold, OfEach}
use Rattle.nrm_hub.specs.World.{Comes, Exchange, World, beginning}
use Rattle.nrm_hub.specs.declared.asked.Asked.{Asked}
use Rattle.nrm_hub.specs.declared.asked.Asked.TheVariants as asked
use Rattle.nrm_hub.specs.declared.limits.TheConstants.{LAST_SEQUENCE}
use Rattle.nrm_hub.specs.declared.row.Row.{Row}
use Rattle.nrm_hub.specs.declared.phase.Phase.TheVariants as phase

abbrev pub IsFrontOf : {A : Type 0} → List A → List A → Type 0
IsFrontOf front all = (rest : List _) × (all ≡ front ++ rest)

-- a command of the session, and its reply
abbrev pub Turn : Type 0
Turn = Command × Reply

-- the command that was carried out for a line, if one was; and its row, if it has one
abbrev pub turn_in : How → List Turn
turn_in (carried c reply) = (c, reply) ∷ []
turn_in (passed c reply) = (c, reply) ∷ []
turn_in other = []

abbrev pub turn_of : Exchange → List Turn
turn_of e = turn_in e.how

abbrev pub entry_in : List ℕ → ℕ → How → List Entry
entry_in desk sequence (carried c reply) = record { desk = desk; sequence = sequence; command = c; reply = reply } ∷ []
entry_in desk sequence other = []

abbrev pub entry_of : Exchange → List Entry
entry_of e = entry_in e.desk e.sequence e.how

abbrev pub turn_again : Entry → Turn
turn_again entry = (entry.command, entry.reply)

-- all that was carried out: what was given again, and then what was answered
abbrev pub turns_in : World → List Turn
turns_in w = map turn_again w.again ++ flat_map turn_of w.answered

-- all rows, in order
abbrev pub rows_in : World → List Entry
rows_in w = w.again ++ flat_map entry_of w.answered

-- the bytes of the rows that were given again and of those that were given out
abbrev pub rows_again_in : Header → List ℕ → List ℕ
rows_again_in (header.Again size) payload = payload
rows_again_in other payload = []

abbrev pub rows_again : Frame → List ℕ
rows_again f = rows_again_in f.header f.payload

abbrev pub rows_out : Output → List ℕ
rows_out (keep rows) = rows
rows_out other = []

abbrev pub rows_given : World → List ℕ
rows_given w = flat_map rows_again w.inputs ++ flat_map rows_out w.outputs

-- the lines of one client that were answered
abbrev pub of_client : ℕ → List Exchange → List Exchange
of_client k answered = filter (λ (e : Exchange). e.client == k) answered

abbrev pub lines_in : List Exchange → List (List ℕ)
lines_in answered = map (λ (e : Exchange). e.line) answered

abbrev pub bytes_in : List Exchange → List ℕ
bytes_in answered = flat_map (λ (e : Exchange). e.line ++ 10 ∷ []) answered

abbrev pub told_in : List Exchange → List ℕ
told_in answered = flat_map (λ (e : Exchange). e.text) answered

-- (a) From each state that the controller represented at the beginning, all that was carried out is one run of the session, in the order in
-- which it was taken, and the controller represents the run's last state.
pub record IsOneRun (start control : ControlValue) (turns : List Turn) : Type 0 where
  pub network : control.net ≡ start.net
  pub run : (s : SeatState) → Represents start s
      → (s' : SeatState) × Represents control s' × Run start.net s (map (λ turn. turn.0) turns) (map (λ turn. turn.1) turns) s'

-- (c) So many of the lines that were answered stand before the last word that all is kept, and what was sent to a client is a front of the
-- replies to its own lines among these.
pub record SentWhenSafe (w : World) (k : ℕ) : Type 0 where
  pub within : w.safe ≤ length w.answered
  pub kept : IsFrontOf (rows_text 0 (w.again ++ flat_map entry_of (take w.safe w.answered))) (rows_given w)
  pub sent : IsFrontOf (w.sent k) (told_in (of_client k (take w.safe w.answered)))

-- (d) Of two rows of one desk the later one has the greater number: so no number is carried out twice.
abbrev pub NumbersRise : Entry → Entry → Type 0
NumbersRise earlier later = earlier.desk ≡ later.desk → earlier.sequence < later.sequence

-- and what a line is told is the reply to the command that it asks: the one that was carried out for it, or the one of the desk's own row of that
-- number, where that was there
abbrev pub HasItsReply : List Entry → Exchange → How → Type 0
HasItsReply rows e (carried c reply) = (asked_in e.line ≡ asked.Says c) × (e.text ≡ text_of reply)
HasItsReply rows e (passed c reply) = (asked_in e.line ≡ asked.Says c) × (e.text ≡ told_text reply)
HasItsReply rows e (repeated row) =
    (entry : Entry) × ((before : List Entry) × (after : List Entry) × (rows ≡ before ++ entry ∷ after)) × (entry.desk ≡ e.desk)
    × (entry.sequence ≡ e.sequence) × (asked_in e.line ≡ asked.Says entry.command) × (e.text ≡ text_of entry.reply)
HasItsReply rows e otherwise = ⊤

-- (f) the desk that a row's booking was sold to, if it was sold
abbrev pub seller_by : List ℕ → Reply → List (List ℕ)
seller_by desk (sold number) = desk ∷ []
seller_by desk other = []

abbrev pub seller_of : Entry → List (List ℕ)
seller_of entry = seller_by entry.desk entry.reply

-- Of a client that is there and isn't to be closed: the whole lines that it sent are those that were answered and then those that wait, and the
-- replies to those that were answered are what was sent to it and then what waits. What came from it are these lines with their ends, whose
-- bytes were said to be used or will be, and then what waits.
pub record IsHeard (w : World) (c : ClientValue) : Type 0 where
  pub lines : whole_lines (w.came c.serial) ≡ lines_in (of_client c.serial w.answered) ++ whole_lines c.coming
  pub replies : told_in (of_client c.serial w.answered) ≡ w.sent c.serial ++ c.told
  pub bytes : w.came c.serial ≡ bytes_in (of_client c.serial w.answered) ++ c.coming
  pub used : w.used c.serial + c.used ≡ length (bytes_in (of_client c.serial w.answered))

-- the rows of one desk; the number that its next line may have behind them; and its last ones, which it holds
abbrev pub rows_of : List ℕ → List Entry → List Entry
rows_of name rows = filter (λ (e : Entry). bytes_eq e.desk name) rows

abbrev pub next_after : ℕ → List Entry → ℕ
next_after next [] = next
next_after next (entry ∷ more) = next_after (entry.sequence + 1) more

abbrev pub held_after : List Entry → List Entry → List Entry
held_after held [] = held
held_after held (entry ∷ more) = held_after (trimmed (held ++ entry ∷ [])) more

abbrev pub entry_with : ControlValue → List ℕ → Row → Entry
entry_with control name row = record { desk = name; sequence = row.sequence; command = row.command; reply = reply_in control row.reply }

-- What a desk knows is what its own rows leave, in whatever order those of others came between.
pub record KnowsItsRows (control : ControlValue) (desk : DeskValue) (rows : List Entry) : Type 0 where
  pub next : desk.next ≡ next_after 1 (rows_of desk.name rows)
  pub held : map (entry_with control desk.name) desk.held ≡ held_after [] (rows_of desk.name rows)

-- From the beginning on:
pub record AreServed (start : ControlValue) (w : World) : Type 0 where
  -- all that was carried out is one run
  pub run : IsOneRun start w.hub.register.control (turns_in w)
  -- the rows that were given again, those given out, and those still to be given out are just those of what was carried out, with their replies
  pub rows : rows_given w ++ w.hub.register.text ≡ rows_text 0 (rows_in w)
  -- the lines of each client that were answered are the first of the whole lines that it sent, in its order
  pub lines : (k : ℕ) → IsFrontOf (lines_in (of_client k w.answered)) (whole_lines (w.came k))
  -- what was sent to it is a front of the replies to these, none of which was sent before its row was said to be kept
  pub sent : (k : ℕ) → SentWhenSafe w k
  -- each client that is there is heard; and where the hub has settled all that was answered is kept, and nothing waits to be sent to anybody
  pub heard : (place : ℕ) (c : ClientValue) → client_at w.hub place ≡ Some c → c.closing ≡ None → IsHeard w c
  pub settled : w.hub.phase ≡ phase.Settled → (w.safe ≡ length w.answered) × OfEach IsTold w.hub
  -- of each desk each number is carried out at most once, and what a line is told is the reply to it, also when it comes again
  pub once : AllPairs NumbersRise (rows_in w)
  pub replies : All (λ (e : Exchange). HasItsReply (rows_in w) e e.how) w.answered
  -- each desk knows just its own rows
  pub known : (d : ℕ) → d < length w.hub.register.desks → KnowsItsRows w.hub.register.control (desk_at w.hub.register d) (rows_in w)
  -- and the owners of bookings, by which a desk may cancel its own, are the desks that they were sold to, in order
  pub owners : map (name_at w.hub.register) w.hub.register.owners ≡ flat_map seller_of (rows_in w)

-- THE THEOREM: whatever happens, in whatever order, so it is.
abbrev pub DesksAreServed : Type 0
DesksAreServed = (start : ControlValue) (w : World) → IsControl start → Comes (beginning start) w → AreServed start w

-- whether a client may have a line answered by what it asks: greet by that name, look at what is to be had, or have the command carried out
abbrev pub is_allowed : RegisterValue → ClientValue → Option ℕ → Asked → Bool
is_allowed r c None (asked.Greeting name number) = may_greet c name
is_allowed r c None other = true
is_allowed r c (Some d) (asked.Greeting name number) = true
is_allowed r c (Some d) (asked.Ask product) = c.rights.look
is_allowed r c (Some d) (asked.Says command) = allows c.rights r.owners d command

-- (f) A line beyond a client's rights changes nothing at all, and is told so, whatever its number within the limits.
abbrev pub RightsHold : Type 0
RightsHold = (spare : Option ℕ) (r : RegisterValue) (c : ClientValue) (line rest : List ℕ) (r' : RegisterValue) (c' : ClientValue) (how : How)
    (text : List ℕ) → c.number ≤ LAST_SEQUENCE → is_allowed r c c.desk (asked_in line) ≡ false → TakesLine spare r c line rest r' c' how text
    → (r' ≡ r) × (how ≡ otherwise) × (text ≡ denied_line)

-- (e) Two hubs that have the same rows in the same order, whatever else was answered at either, came to the same state from the same one: so
-- a hub that is given the rows of another again, cut anywhere between two, stands where the other stood after these.
abbrev pub RowsGiveTheState : Type 0
RowsGiveTheState = (start start' : ControlValue) (w w' : World) → Comes (beginning start) w → Comes (beginning start') w'
    → rows_in w' ≡ rows_in w → (net : NetworkValue) (s s' s'' : SeatState)
    → Run net s (map (λ turn. turn.0) (turns_in w)) (map (λ turn. turn.1) (turns_in w)) s'
    → Run net s (map (λ turn. turn.0) (turns_in w')) (map (λ turn. turn.1) (turns_in w')) s'' → s'' ≡ s'
