-- What callers see of a book, and what every book keeps.
use Rattle.std.specs.Prelude.{ℕ, ◌≡◌, ◌<◌, ◌≤◌, ◌++◌, ◌∷◌, [], ◌+◌, List, All, length}
use Rattle.std.specs.Int.{IsInRange}
use Rattle.nrm_model.specs.Inventory.{Inventory, authorised_of, legs_of}
use Rattle.nrm_model.specs.declared.limits.TheConstants.{BOOKING_LIMIT, MOST_FARE, MOST_LEGS, MOST_PARTY, MOST_PRODUCTS, MOST_SEATS}
use Rattle.nrm_book.specs.declared.booking.Booking.{Booking}
use Rattle.nrm_book.specs.Bookings.{NumbersRise, left_on, sold_on}

-- the authorised seats, fares and leg lists of a network, the bookings that stand, and the number of the next one
pub record BookValue : Type 0 where
  pub inventory : Inventory
  pub bookings : List Booking
  pub next : ℕ

-- an inventory within the limits of a network
pub record IsInventory (inventory : Inventory) : Type 0 where
  pub leg_count : length inventory.authorised ≤ MOST_LEGS
  pub authorised : All (λ seats. seats ≤ MOST_SEATS) inventory.authorised
  pub product_count : length inventory.legs ≤ MOST_PRODUCTS
  pub fare_count : length inventory.fares ≡ length inventory.legs
  pub fares : All (λ fare. fare ≤ MOST_FARE) inventory.fares
  pub some_leg : All (λ (legs : List ℕ). 1 ≤ length legs) inventory.legs
  pub legs : All (λ (legs : List ℕ). All (λ leg. leg < length inventory.authorised) legs) inventory.legs

-- the bookings are those of a book: their numbers rise below the next one, each is a party of a product, and no leg has more seats sold
-- than it has authorised
pub record IsBook (book : BookValue) : Type 0 where
  pub inventory : IsInventory book.inventory
  pub next : IsInRange 1 BOOKING_LIMIT book.next
  pub rising : NumbersRise book.bookings
  pub numbers : All (λ (booking : Booking). (1 ≤ booking.number) × (booking.number < book.next)) book.bookings
  pub parties : All (λ (booking : Booking). IsInRange 1 MOST_PARTY booking.party) book.bookings
  pub products : All (λ (booking : Booking). booking.product < length book.inventory.legs) book.bookings
  pub seats : (leg : ℕ) → leg < length book.inventory.authorised
      → sold_on book.inventory book.bookings leg ≤ authorised_of book.inventory leg

-- a booking can be loaded into a book: its number is no lower than the next one, its product is one of the book's, and its party is no
-- larger than the seats left on each leg of the product
pub record IsLoadable (book : BookValue) (booking : Booking) : Type 0 where
  pub number : book.next ≤ booking.number
  pub low : booking.number < BOOKING_LIMIT
  pub product : booking.product < length book.inventory.legs
  pub party : IsInRange 1 MOST_PARTY booking.party
  pub seats : All (λ leg. booking.party ≤ left_on book.inventory book.bookings leg) (legs_of book.inventory booking.product)

-- the book has this booking more, under its own number, and the next number is the one above it
abbrev pub with_loaded : BookValue → Booking → BookValue
with_loaded book booking = record book { bookings = book.bookings ++ booking ∷ []; next = booking.number + 1 }

-- the book has a booking more, with the next number
abbrev pub with_booking : BookValue → ℕ → ℕ → BookValue
with_booking book product party = with_loaded book (record { number = book.next; product = product; party = party })
