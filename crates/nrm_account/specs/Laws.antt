-- What accounts say, whatever they are of.
use Rattle.std.specs.Prelude.{ℕ, ◌≡◌, ◌*◌, ◌/◌, ◌≤◌, ◌<◌, true, false, List, [], ◌∷◌, MatchOption, ⊤}
use Rattle.nrm_model.specs.Network.{NetworkValue, product_named, product_of}
use Rattle.nrm_model.specs.declared.limits.TheConstants.{MOST_PARTY}
use Rattle.nrm_book.specs.Bookings.{booking_numbered}
use Rattle.nrm_book.specs.declared.booking.Booking.{Booking}
use Rattle.nrm_plan.specs.Plans.{PlanValue}
use Rattle.nrm_control.specs.Verdict.{verdict_of}
use Rattle.nrm_control.specs.declared.answer.Answer.TheVariants as answer
use Rattle.nrm_control.specs.State.{SeatState}
use Rattle.nrm_stream.specs.declared.command.Command.{Command}
use Rattle.nrm_stream.specs.declared.command.Command.TheVariants as command
use Rattle.nrm_session.specs.Laws.{MemorySuffices}
use Rattle.nrm_session.specs.Replies.{Reply, cancelled, reply_to, unknown}
use Rattle.nrm_account.specs.Readings.{IsAccountOf, Reading, Reads, unread}
use Rattle.nrm_account.specs.Account.{request_account, ruled}
use Rattle.nrm_account.specs.Largest.{largest_party}

-- THE LAW: the numbers of the account of a request give its reply by the rule alone.
abbrev pub AccountsGiveReplies : Type 0
AccountsGiveReplies = (net : NetworkValue) (plan : PlanValue) (bookings : List Booking) (number product party : ℕ)
    → ruled (request_account net plan bookings number product party) ≡ reply_to net (verdict_of net plan bookings number product party)

-- A request for a party is sold exactly if the party is no larger than the largest.
pub record LargestIsSold (net : NetworkValue) (plan : PlanValue) (bookings : List Booking) (number product : ℕ) : Type 0 where
  pub sold : (party : ℕ) → 1 ≤ party → party ≤ largest_party net plan bookings product
      → verdict_of net plan bookings number product party ≡ answer.Sold number
  pub refused : (party : ℕ) → party ≤ MOST_PARTY → largest_party net plan bookings product < party
      → (verdict_of net plan bookings number product party ≡ answer.Sold number) → ⊥

abbrev pub LargestPartiesAreSold : Type 0
LargestPartiesAreSold = (net : NetworkValue) (plan : PlanValue) (bookings : List Booking) (number product : ℕ)
    → LargestIsSold net plan bookings number product

-- THE LAW: what is written as the lines of a session are read is the account of the line that is asked for, if there are so many lines and memory
-- sufficed for it; and if there are fewer, it is nothing.
abbrev pub AccountsAreOfTheirLines : Type 0
AccountsAreOfTheirLines = (net : NetworkValue) (start : SeatState) (asked : ℕ) (commands : List Command) (text : List ℕ) (last : Reading)
    → 1 ≤ asked → Reads net asked (unread asked start) commands text last → last.ran_out ≡ false
    → (last.left ≡ 0 → IsAccountOf net start asked commands text) × (0 < last.left → text ≡ [])

-- And if memory runs out for the account, nothing is written.
abbrev pub OutOfMemoryWritesNothing : Type 0
OutOfMemoryWritesNothing = (net : NetworkValue) (start : SeatState) (asked : ℕ) (commands : List Command) (text : List ℕ) (last : Reading)
    → Reads net asked (unread asked start) commands text last → last.ran_out ≡ true → text ≡ []

-- The reply to a request is what the rule gives over the numbers of its account; that to a cancellation gives back, of the party times the fare,
-- the percentage, cut. A product or a number that isn't known is answered so.
abbrev pub IsAnswered : NetworkValue → SeatState → Command → Reply → Type 0
IsAnswered net s (command.Book name party) reply =
    MatchOption (product_named net name) (reply ≡ unknown)
    (λ product. reply ≡ ruled (request_account net s.plan s.bookings s.next product party))
IsAnswered net s (command.Cancel number) reply =
    MatchOption (booking_numbered s.bookings number) (reply ≡ unknown)
    (λ booking. reply
    ≡ cancelled number (booking.party * (product_of net booking.product).fare * (product_of net booking.product).refund / 100))
IsAnswered _ _ _ _ = ⊤

-- THE LAW: so is the reply of each account of a request or a cancellation.
abbrev pub AccountsAnswer : Type 0
AccountsAnswer = (net : NetworkValue) (start : SeatState) (asked : ℕ) (commands : List Command) (text : List ℕ)
    → (account : IsAccountOf net start asked commands text) → IsAnswered net account.state account.command account.reply

-- Neither the line of an account nor one before it ran out of memory.
abbrev pub HadMemory : {net : NetworkValue} {start : SeatState} {asked : ℕ} {commands : List Command} {text : List ℕ}
    → IsAccountOf net start asked commands text → Type 0
HadMemory account = MemorySuffices (account.reply ∷ account.replies)

-- Two accounts of a line of the same commands from the same opening are the same text, if that is so of both.
abbrev pub AccountsAreDetermined : Type 0
AccountsAreDetermined = (net : NetworkValue) (start : SeatState) (asked : ℕ) (commands : List Command) (text other : List ℕ)
    → (account : IsAccountOf net start asked commands text) → (another : IsAccountOf net start asked commands other)
    → HadMemory account → HadMemory another → other ≡ text
