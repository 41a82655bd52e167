-- One line of a session that keeps its bookings: the reply, and what is remembered after it.
use Rattle.std.specs.Prelude.{ℕ, ◌≡◌, List, [], ◌∷◌, codes, Some}
use Rattle.nrm_text.specs.Words.{text_line}
use Rattle.nrm_model.specs.Network.{NetworkValue, product_named}
use Rattle.nrm_book.specs.declared.booking.Booking.{Booking}
use Rattle.nrm_book.specs.Bookings.{booking_numbered}
use Rattle.nrm_control.specs.State.{SeatState, answer_in}
use Rattle.nrm_control.specs.declared.answer.Answer.TheVariants as answer
use Rattle.nrm_stream.specs.declared.command.Command.{Command}
use Rattle.nrm_stream.specs.declared.command.Command.TheVariants as command
use Rattle.nrm_session.specs.Replies.{Reply, memory, text_of}
use Rattle.nrm_session.specs.Step.{Step}

-- what a line is answered: as ever, or that the store failed
pub data KeptReply : Type 0 where
  told : Reply → KeptReply
  store : KeptReply

abbrev pub kept_text : KeptReply → List ℕ
kept_text (told reply) = text_of reply
kept_text store = text_line (codes "store" ∷ [])

-- a line by which the book would change: a request that is sold, and the cancellation of a live number
abbrev pub ChangesBook : NetworkValue → SeatState → Command → Type 0
ChangesBook net s (command.Book name party) =
    (product : ℕ) × (product_named net name ≡ Some product) × (answer_in net s product party ≡ answer.Sold s.next)
ChangesBook net s (command.Cancel number) = (booking : Booking) × (booking_numbered s.bookings number ≡ Some booking)
ChangesBook net s (command.Reoptimise period) = ⊥
ChangesBook net s (command.Leg name) = ⊥
ChangesBook net s command.Hindsight = ⊥
ChangesBook net s command.Plan = ⊥
ChangesBook net s command.Bad = ⊥

-- From s, the controller may give this reply to the command and go on to s': as ever; or, if the book would change, the store fails or
-- memory runs out, and nothing changes.
pub data KeptStep (net : NetworkValue) (s : SeatState) (c : Command) : KeptReply → SeatState → Type 0 where
  as_ever : (reply : Reply) (s' : SeatState) → Step net s c reply s' → KeptStep net s c (told reply) s'
  not_stored : ChangesBook net s c → KeptStep net s c store s
  lacks_memory : ChangesBook net s c → KeptStep net s c (told memory) s
