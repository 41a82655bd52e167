-- How one line of a client is answered.
use Rattle.std.specs.Prelude.{ℕ, ◌≡◌, ◌<◌, ◌≤◌, Bool, true, false, List, [], ◌∷◌, ◌++◌, codes, decimal, nat_lt, Option, Some, None, if◌then◌else◌}
use Rattle.std.specs.Prelude.{bytes_eq, find, ◌&&◌, ◌==◌}
use Rattle.nrm_text.specs.Words.{text_line}
use Rattle.nrm_model.specs.Network.{product_named}
use Rattle.nrm_account.specs.Largest.{beyond, largest_party}
use Rattle.nrm_control.specs.Standing.{ControlValue}
use Rattle.nrm_stream.specs.declared.command.Command.{Command}
use Rattle.nrm_stream.specs.declared.command.Command.TheVariants as command
use Rattle.nrm_session.specs.Answering.{reply_in}
use Rattle.nrm_session.specs.Replies.{Reply, bad, leg_told, memory, no_fare, no_leg, plan_told, text_of}
use Rattle.nrm_session.specs.declared.reply.Reply.{Reply as Answered}
use Rattle.nrm_frames.specs.declared.rights.Rights.{Rights}
use Rattle.nrm_frames.specs.declared.why.Why.{Why}
use Rattle.nrm_frames.specs.declared.why.Why.TheVariants as why
use Rattle.nrm_hub.specs.Asked.{allows, asked_in, is_change}
use Rattle.nrm_hub.specs.Register.{Carries, Passes, RegisterValue, desk_at}
use Rattle.nrm_hub.specs.declared.limits.TheConstants.{LAST_SEQUENCE, MOST_ROWS}
use Rattle.nrm_hub.specs.declared.asked.Asked.TheVariants as asked
use Rattle.nrm_hub.specs.declared.row.Row.{Row}

-- lines that only the hub writes
abbrev pub at_line : ℕ → List ℕ
at_line number = text_line (codes "at" ∷ decimal number ∷ [])

abbrev pub denied_line : List ℕ
denied_line = codes "denied\n"

-- what bounds a party, by what one seat more would be answered: the fare, a leg, or the most that a line may ask for
abbrev pub bound_words : Reply → List (List ℕ)
bound_words (no_leg name) = codes "leg" ∷ name ∷ []
bound_words no_fare = codes "fare" ∷ []
bound_words bad = codes "most" ∷ []
bound_words other = []

-- the largest party of a product of which a request would be sold now, and what bounds it
abbrev pub available_line : ControlValue → List ℕ → Option ℕ → List ℕ
available_line control name None = text_line (codes "ask" ∷ name ∷ codes "unknown" ∷ [])
available_line control name (Some product) =
    let party = largest_party control.net control.plan control.bookings product in
    text_line (codes "ask" ∷ name ∷ decimal party
    ∷ bound_words (beyond control.net control.plan control.bookings control.next product party))

-- the text of a reply for a client: behind one of several lines stands an empty line, so that it is known to be whole
abbrev pub told_text : Reply → List ℕ
told_text (leg_told text) = text ++ 10 ∷ []
told_text (plan_told text) = text ++ 10 ∷ []
told_text reply = text_of reply

-- the row that a desk has under a number, among those that are held
abbrev pub row_under : List Row → ℕ → Option Row
row_under held number = find (λ (row : Row). row.sequence == number) held

-- two commands are the same
abbrev pub is_same : Command → Command → Bool
is_same (command.Book product party) (command.Book product' party') = bytes_eq product product' && (party == party')
is_same (command.Cancel number) (command.Cancel number') = number == number'
is_same (command.Reoptimise period) (command.Reoptimise period') = period == period'
is_same one other = false

-- why a line under a number that was used has no reply: it was another line, or it is older than what is held
abbrev pub reason_used : List Row → ℕ → Why
reason_used [] number = why.Old
reason_used (row ∷ more) number = if nat_lt number row.sequence then why.Old else why.Sequence

-- What became of a line: it was carried out, with a row or without one; its row was there; it was answered otherwise.
pub data How : Type 0 where
  carried : Command → Reply → How
  passed : Command → Reply → How
  repeated : Row → How
  otherwise : How

-- A line of a client with these rights that is desk d, under the client's next number n, is answered with a text: what changes in common, and what
-- became of it.
pub data Answers (r : RegisterValue) (rights : Rights) (d n : ℕ) (line : List ℕ) : RegisterValue → How → List ℕ → Type 0 where
  greets_late : (name : List ℕ) (number : Option ℕ) → asked_in line ≡ asked.Greeting name number
      → Answers r rights d n line r otherwise (text_of bad)
  asks : (name : List ℕ) → asked_in line ≡ asked.Ask name → rights.look ≡ true
      → Answers r rights d n line r otherwise (available_line r.control name (product_named r.control.net name))
  may_not_ask : (name : List ℕ) → asked_in line ≡ asked.Ask name → rights.look ≡ false → Answers r rights d n line r otherwise denied_line
  is_denied : (c : Command) → asked_in line ≡ asked.Says c → allows rights r.owners d c ≡ false
      → Answers r rights d n line r otherwise denied_line
  -- carried out, with a row; memory runs out as it is, or before; and without a row, since it changes nothing
  is_carried : (c : Command) (r' : RegisterValue) (reply : Answered) → asked_in line ≡ asked.Says c → allows rights r.owners d c ≡ true
      → is_change c ≡ true → (desk_at r d).next ≤ n → r.rows < MOST_ROWS → Carries r r' d n c reply
      → Answers r rights d n line r' (carried c (reply_in r'.control reply)) (text_of (reply_in r'.control reply))
  runs_out : (c : Command) (r' : RegisterValue) → asked_in line ≡ asked.Says c → allows rights r.owners d c ≡ true → is_change c ≡ true
      → (desk_at r d).next ≤ n → r.rows < MOST_ROWS → Passes r r' c memory → Answers r rights d n line r' (passed c memory) (text_of memory)
  lacks : (c : Command) → asked_in line ≡ asked.Says c → allows rights r.owners d c ≡ true → is_change c ≡ true
      → (desk_at r d).next ≤ n → r.rows < MOST_ROWS → Answers r rights d n line r otherwise (text_of memory)
  looks : (c : Command) (r' : RegisterValue) (reply : Reply) → asked_in line ≡ asked.Says c → allows rights r.owners d c ≡ true
      → is_change c ≡ false → Passes r r' c reply → Answers r rights d n line r' (passed c reply) (told_text reply)
  -- its row is there
  repeats : (c : Command) (row : Row) → asked_in line ≡ asked.Says c → allows rights r.owners d c ≡ true → is_change c ≡ true
      → n < (desk_at r d).next → row_under (desk_at r d).held n ≡ Some row → is_same row.command c ≡ true
      → Answers r rights d n line r (repeated row) (text_of (reply_in r.control row.reply))

-- A line that isn't answered: the client is to be closed, since the number is too great, or, of a command that it may have carried out, since
-- the number was used for another line or is too old, or since there are as many rows as there may be.
pub data Refuses (r : RegisterValue) (rights : Rights) (d n : ℕ) (line : List ℕ) : Why → Type 0 where
  is_beyond : LAST_SEQUENCE < n → Refuses r rights d n line why.Sequence
  is_other : (c : Command) (row : Row) → asked_in line ≡ asked.Says c → allows rights r.owners d c ≡ true → is_change c ≡ true
      → n < (desk_at r d).next → row_under (desk_at r d).held n ≡ Some row → is_same row.command c ≡ false
      → Refuses r rights d n line why.Sequence
  is_used : (c : Command) → asked_in line ≡ asked.Says c → allows rights r.owners d c ≡ true → is_change c ≡ true → n < (desk_at r d).next
      → row_under (desk_at r d).held n ≡ None → Refuses r rights d n line (reason_used (desk_at r d).held n)
  is_full : (c : Command) → asked_in line ≡ asked.Says c → allows rights r.owners d c ≡ true → is_change c ≡ true → (desk_at r d).next ≤ n
      → MOST_ROWS ≤ r.rows → Refuses r rights d n line why.Rows
