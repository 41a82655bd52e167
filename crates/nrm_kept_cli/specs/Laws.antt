-- Laws of sessions that keep their bookings, whatever the faults of their store.
use Rattle.std.specs.Prelude.{ℕ, ◌≡◌, ◌≢◌, ◌+◌, List, [], ◌∷◌, ◌++◌, Ok}
use Rattle.nrm_fraction.specs.Fraction.{Fraction}
use Rattle.nrm_model.specs.Inventory.{inventory_of}
use Rattle.nrm_model.specs.Limits.{IsNetwork}
use Rattle.nrm_model.specs.Network.{NetworkValue}
use Rattle.nrm_book.specs.declared.booking.Booking.{Booking}
use Rattle.nrm_book.specs.Book.{IsBook}
use Rattle.nrm_hindsight.specs.Requests.{requests_of}
use Rattle.nrm_model.specs.declared.mode.Mode.{Mode}
use Rattle.nrm_model.specs.declared.mode.Mode.TheVariants as mode
use Rattle.nrm_plan.specs.Plans.{IsOpeningPlan, PlanValue}
use Rattle.nrm_session.specs.LastPlan.{PrintsOptimalPrices}
use Rattle.nrm_control.specs.State.{SeatState}
use Rattle.nrm_stream.specs.declared.command.Command.{Command}
use Rattle.nrm_stream.specs.declared.command.Command.TheVariants as command
use Rattle.nrm_session.specs.Hindsight.{IsBounded, requests_in}
use Rattle.nrm_session.specs.Laws.{HasFirstParts, IsSound}
use Rattle.nrm_session.specs.Replies.{Reply, memory, hindsight_told}
use Rattle.nrm_session.specs.Run.{Run}
use Rattle.nrm_book.specs.Bookings.{revenue_of}
use Rattle.nrm_session.specs.Money.{given_back_in_all, sold_in_all}
use Rattle.nrm_session.specs.Step.{Step}
use Rattle.nrm_keeper.specs.declared.row.KeptRow.{KeptRow}
use Rattle.nrm_kept_cli.specs.Rows.{LoadAgain, Loaded, load, loaded_state}
use Rattle.nrm_kept_cli.specs.Run.{KeptRun}
use Rattle.nrm_kept_cli.specs.Step.{KeptReply, KeptStep, told, store}

-- the lines that were carried out, whose replies are neither `store` nor `memory`; and their replies
abbrev pub carried_out : List Command → List KeptReply → List Command
carried_out (command ∷ commands) (told memory ∷ replies) = carried_out commands replies
carried_out (command ∷ commands) (told reply ∷ replies) = command ∷ carried_out commands replies
carried_out (command ∷ commands) (store ∷ replies) = carried_out commands replies
carried_out commands replies = []

abbrev pub replies_to_those : List KeptReply → List Reply
replies_to_those [] = []
replies_to_those (told memory ∷ replies) = replies_to_those replies
replies_to_those (told reply ∷ replies) = reply ∷ replies_to_those replies
replies_to_those (store ∷ replies) = replies_to_those replies

-- A line that was answered `store` or `memory` left everything as it was: without these lines a run is one of a session without a store.
-- So what holds of all sessions holds of those that keep their bookings.
abbrev pub FaultsLeaveNothing : Type 0
FaultsLeaveNothing = (net : NetworkValue) (s s' : SeatState) (commands : List Command) (replies : List KeptReply)
    → KeptRun net s commands replies s' → Run net s (carried_out commands replies) (replies_to_those replies) s'

-- no leg has more seats sold than are authorised once rows have loaded, nor after any commands from there
abbrev pub KeptRunsOversellNoLeg : Type 0
KeptRunsOversellNoLeg = (net : NetworkValue) (plan : PlanValue) (rows : List KeptRow) (l : Loaded) → load net rows ≡ Ok l
    → IsSound net (loaded_state plan l)
    × ((s' : SeatState) (commands : List Command) (replies : List KeptReply) → KeptRun net (loaded_state plan l) commands replies s'
    → IsSound net s')

-- At each line of hindsight that tells a value, no selection of the loaded bookings and of the requests since, each whole and at most once,
-- that fits the authorised seats earns more; and the bookings that stand are such a selection, of the revenue that is told.
abbrev pub KeptHindsightBounds : Type 0
KeptHindsightBounds = (net : NetworkValue) (plan : PlanValue) (rows : List KeptRow) (l : Loaded) → IsNetwork net → load net rows ≡ Ok l
    → (mid after : SeatState) (commands : List Command) (replies : List KeptReply) (value : Fraction) (revenue withheld : ℕ)
    → KeptRun net (loaded_state plan l) commands replies mid → Step net mid command.Hindsight (hindsight_told value revenue withheld) after
    → IsBounded net (requests_of l.bookings ++ requests_in net (carried_out commands replies)) mid value revenue

-- the bookings of a book of the network load again from their rows
abbrev pub RowsLoadAgain : Type 0
RowsLoadAgain = (net : NetworkValue) (bookings : List Booking) (next : ℕ) → IsNetwork net
    → IsBook (record { inventory = inventory_of net; bookings = bookings; next = next }) → LoadAgain net bookings

-- What the loaded bookings are worth, and what was sold since by the lines that were carried out, is the revenue of the bookings that
-- stand, what was given back since, and what is withheld.
abbrev pub KeptMoneyAddsUp : Type 0
KeptMoneyAddsUp = (net : NetworkValue) (plan : PlanValue) (rows : List KeptRow) (l : Loaded) → IsNetwork net → load net rows ≡ Ok l
    → (s' : SeatState) (commands : List Command) (replies : List KeptReply) → KeptRun net (loaded_state plan l) commands replies s'
    → revenue_of (inventory_of net) l.bookings + sold_in_all net (carried_out commands replies) (replies_to_those replies)
    ≡ revenue_of (inventory_of net) s'.bookings + given_back_in_all (replies_to_those replies) + s'.withheld

-- In a mode that solves linear programs, what a `plan` line prints once rows have loaded, after any commands from there, are optimal bid
-- prices: for the seats left and from the period of the last line that was answered `optimised`, or for every authorised seat and from
-- period 1.
abbrev pub KeptPlansAreOptimal : Type 0
KeptPlansAreOptimal = (net : NetworkValue) (m : Mode) (plan : PlanValue) (l : Loaded) → IsNetwork net → m ≢ mode.FirstCome
    → IsOpeningPlan net m plan
    → (mid after : SeatState) (commands : List Command) (replies : List KeptReply) (reply : Reply)
    → KeptRun net (loaded_state plan l) commands replies mid → Step net mid command.Plan reply after
    → PrintsOptimalPrices net m (loaded_state plan l) (carried_out commands replies) (replies_to_those replies) reply

-- each first part of such a run is a run, and the rest is one from where it came: so what holds after each run holds in every state on the way
abbrev pub KeptRunsHaveFirstParts : Type 0
KeptRunsHaveFirstParts = (net : NetworkValue) → HasFirstParts (KeptStep net)
