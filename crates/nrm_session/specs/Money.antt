-- Money, to be read aloud: what was sold in all is the revenue of the bookings that stand, what was given back, and what is withheld.
use Rattle.std.specs.Prelude.{ℕ, ◌≡◌, ◌+◌, ◌*◌, ◌<◌, All, List, [], ◌∷◌, sum_by}
use Rattle.std.specs.Option.{option_map_or}
use Rattle.nrm_fraction.specs.Fraction.{Fraction}
use Rattle.nrm_model.specs.Inventory.{inventory_of}
use Rattle.nrm_model.specs.Limits.{IsNetwork}
use Rattle.nrm_model.specs.Network.{NetworkValue, product_named, product_of}
use Rattle.nrm_book.specs.Bookings.{NumbersRise, revenue_of}
use Rattle.nrm_book.specs.declared.booking.Booking.{Booking}
use Rattle.nrm_plan.specs.Plans.{PlanValue}
use Rattle.nrm_control.specs.State.{SeatState, opening}
use Rattle.nrm_stream.specs.declared.command.Command.{Command}
use Rattle.nrm_stream.specs.declared.command.Command.TheVariants as command
use Rattle.nrm_session.specs.Replies.{Reply, cancelled, hindsight_told, sold}
use Rattle.nrm_session.specs.Run.{Run}
use Rattle.nrm_session.specs.Step.{Step}

-- what a line sold, by its reply: of a `book` line that was answered `ok` the party times the fare, and of no other line anything
abbrev pub paid_for : NetworkValue → Command → Reply → ℕ
paid_for net (command.Book name party) (sold number) =
    option_map_or (λ product. party * (product_of net product).fare) (product_named net name) 0
paid_for net command reply = 0

-- what some lines sold in all
abbrev pub sold_in_all : NetworkValue → List Command → List Reply → ℕ
sold_in_all net (command ∷ commands) (reply ∷ replies) = paid_for net command reply + sold_in_all net commands replies
sold_in_all net commands replies = 0

-- what was given back: the amounts of the replies `cancelled`
abbrev pub given_back : Reply → ℕ
given_back (cancelled number amount) = amount
given_back reply = 0

abbrev pub given_back_in_all : List Reply → ℕ
given_back_in_all replies = sum_by given_back replies

-- After any commands from an opening, what was sold in all is the revenue of the bookings that stand, and what was given back, and
-- what is withheld; and a line of hindsight tells this revenue and what is withheld.
pub record AddsUp (net : NetworkValue) (commands : List Command) (replies : List Reply) (s : SeatState) : Type 0 where
  pub sum : sold_in_all net commands replies ≡ revenue_of (inventory_of net) s.bookings + given_back_in_all replies + s.withheld
  pub told : (value : Fraction) (revenue withheld : ℕ) (after : SeatState)
      → Step net s command.Hindsight (hindsight_told value revenue withheld) after
      → (revenue ≡ revenue_of (inventory_of net) s.bookings) × (withheld ≡ s.withheld)

abbrev pub MoneyAddsUp : Type 0
MoneyAddsUp = (net : NetworkValue) (plan : PlanValue) (commands : List Command) (replies : List Reply) (s : SeatState) → IsNetwork net
    → Run net (opening plan) commands replies s → AddsUp net commands replies s

-- From any state on, whose bookings have numbers that rise below the next one: what stood and was withheld, and what was sold since, is
-- what stands, what was given back since, and what is withheld.
pub record AreNumbered (s : SeatState) : Type 0 where
  pub rising : NumbersRise s.bookings
  pub below : All (λ (booking : Booking). booking.number < s.next) s.bookings

abbrev pub MoneyGoesOn : Type 0
MoneyGoesOn = (net : NetworkValue) (s : SeatState) (commands : List Command) (replies : List Reply) (s' : SeatState) → IsNetwork net
    → AreNumbered s → Run net s commands replies s'
    → revenue_of (inventory_of net) s.bookings + s.withheld + sold_in_all net commands replies
    ≡ revenue_of (inventory_of net) s'.bookings + given_back_in_all replies + s'.withheld
