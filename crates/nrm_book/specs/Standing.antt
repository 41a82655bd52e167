-- The bookings that stand, in a row of slots.
use Rattle.std.specs.Prelude.{ℕ, ◌<◌, Bool, List, All, AllPairs, Option, Some, None, is_some}
use Rattle.std.specs.List.{filter_map}
use Rattle.nrm_book.specs.declared.booking.Booking.{Booking}
use Rattle.nrm_book.specs.declared.slot.Sale.{Sale}
use Rattle.nrm_book.specs.declared.slot.Slot.{Slot}

-- what is seen of a row: the bookings in order, the least number of the next one, and how many there may be before memory is wanted
pub record StandingValue : Type 0 where
  pub items : List Booking
  pub next : ℕ
  pub room : ℕ

-- the booking of a number, where something was sold under it and was not cancelled
abbrev pub booking_of : ℕ → Option Sale → Option Booking
booking_of number None = None
booking_of number (Some sale) = Some (record { number = number; product = sale.product; party = sale.party })

-- the booking that stands in a slot, and those of a row
abbrev pub standing_in : Slot → Option Booking
standing_in slot = booking_of slot.number slot.sale

abbrev pub is_taken : Slot → Bool
is_taken slot = is_some slot.sale

abbrev pub standing : List Slot → List Booking
standing slots = filter_map standing_in slots

-- the slot once its booking is cancelled
abbrev pub emptied : Slot → Slot
emptied slot = record { number = slot.number; sale = None }

-- the numbers of the slots rise below the next one
abbrev pub SlotsRise : List Slot → Type 0
SlotsRise slots = AllPairs (λ (earlier later : Slot). earlier.number < later.number) slots

pub record IsRow (slots : List Slot) (next : ℕ) : Type 0 where
  pub rising : SlotsRise slots
  pub below : All (λ (slot : Slot). slot.number < next) slots
