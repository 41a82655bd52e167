-- The rows of a book, and the book of rows.
use Rattle.std.specs.Prelude.{ℕ, Bool, ◌≡◌, ◌≤◌, ◌+◌, ◌&&◌, nat_le, List, [], ◌∷◌, ◌++◌, map, All, Option, Some, None, option_and_then}
use Rattle.std.specs.Prelude.{Result, Ok, Err, if◌then◌else◌}
use Rattle.std.specs.List.{list_all}
use Rattle.std.specs.Option.{option_map_or}
use Rattle.nrm_model.specs.Inventory.{inventory_of}
use Rattle.nrm_model.specs.Network.{NetworkValue, product_named, product_of}
use Rattle.nrm_model.specs.declared.limits.TheConstants.{MOST_PARTY}
use Rattle.nrm_book.specs.declared.booking.Booking.{Booking}
use Rattle.nrm_book.specs.Bookings.{left_on}
use Rattle.nrm_hindsight.specs.Requests.{requests_of}
use Rattle.nrm_plan.specs.Plans.{PlanValue}
use Rattle.nrm_control.specs.State.{SeatState}
use Rattle.nrm_keeper.specs.declared.row.KeptRow.{KeptRow}
use Rattle.nrm_kept_cli.specs.declared.loading.TheConstants.{LAST_KEPT}

-- a booking as it is kept: its number, its product's name and its party
abbrev pub row_of : NetworkValue → Booking → KeptRow
row_of net booking = record { number = booking.number; product = (product_of net booking.product).name; party = booking.party }

-- the rows of bookings
abbrev pub rows_of : NetworkValue → List Booking → List KeptRow
rows_of net bookings = map (row_of net) bookings

-- the rows are told, and are those of the bookings
abbrev pub AreRows : NetworkValue → List Booking → Option (List KeptRow) → Type 0
AreRows net bookings rows = rows ≡ Some (rows_of net bookings)

-- what some rows have given: bookings, and the number that the next booking gets
pub record Loaded : Type 0 where
  pub bookings : List Booking
  pub next : ℕ

-- before any row
abbrev pub nothing_loaded : Loaded
nothing_loaded = record { bookings = []; next = 1 }

-- whether a row for a product loads behind others: its number is above theirs and from 1 to 99,999,999,999, its party is from 1 to 999,
-- and each leg of the product has that many seats left of those authorised
abbrev pub row_fits : NetworkValue → Loaded → KeptRow → ℕ → Bool
row_fits net l row product =
    nat_le l.next row.number && (nat_le row.number LAST_KEPT && (nat_le 1 row.party && (nat_le row.party MOST_PARTY
    && list_all (λ leg. nat_le row.party (left_on (inventory_of net) l.bookings leg)) (product_of net product).legs)))

-- the booking that a row gives behind others, if its product is known and it loads
abbrev pub booking_of : NetworkValue → Loaded → KeptRow → Option Booking
booking_of net l row =
    option_and_then (λ product. if row_fits net l row product
    then Some (record { number = row.number; product = product; party = row.party }) else None)
    (product_named net row.product)

-- with one booking more
abbrev pub loaded_more : Loaded → Booking → Loaded
loaded_more l booking = record { bookings = l.bookings ++ booking ∷ []; next = booking.number + 1 }

-- what rows give, one behind another; or the number of the first one that doesn't load
abbrev pub load_behind : NetworkValue → Loaded → List KeptRow → Result Loaded ℕ
load_behind net l [] = Ok l
load_behind net l (row ∷ rows) =
    option_map_or (λ booking. load_behind net (loaded_more l booking) rows) (booking_of net l row) (Err row.number)

abbrev pub load : NetworkValue → List KeptRow → Result Loaded ℕ
load net rows = load_behind net nothing_loaded rows

-- The state of a session that goes on from there, with this plan: the bookings are its past requests, and nothing is withheld. What
-- earlier sessions withheld, and which requests they refused, isn't kept.
abbrev pub loaded_state : PlanValue → Loaded → SeatState
loaded_state plan l = record { plan = plan; bookings = l.bookings; next = l.next; requests = requests_of l.bookings; withheld = 0 }

-- the number behind some bookings: one above that of the last, or this one if there are none
abbrev pub next_behind : ℕ → List Booking → ℕ
next_behind next [] = next
next_behind next (booking ∷ bookings) = next_behind (booking.number + 1) bookings

-- Bookings whose numbers a store can hold load again from their rows, just as they stand; the next number is one above the last.
abbrev pub LoadAgain : NetworkValue → List Booking → Type 0
LoadAgain net bookings = All (λ (booking : Booking). booking.number ≤ LAST_KEPT) bookings
    → load net (rows_of net bookings) ≡ Ok (record { bookings = bookings; next = next_behind 1 bookings })
