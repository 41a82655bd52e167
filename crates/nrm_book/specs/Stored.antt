-- How a book is stored.
use Rattle.std.specs.Prelude.{ℕ, ◌≡◌, ◌≢◌, ◌≤◌, List, All, AllPairs, sum}
use Rattle.nrm_book.specs.Book.{BookValue, IsBook}
use Rattle.nrm_book.specs.Bookings.{revenue_of}
use Rattle.nrm_book.specs.Seats.{SeatsValue, seats_sold}
use Rattle.nrm_book.specs.Standing.{StandingValue}

-- no product has a leg twice, the list has room for as many bookings as there are authorised seats in all, and the counters are what the
-- list sums to
pub record IsStored (book : BookValue) (bookings : StandingValue) (sold : SeatsValue) (revenue : ℕ) : Type 0 where
  pub sound : IsBook book
  pub distinct : All (λ (legs : List ℕ). AllPairs (λ a b. a ≢ b) legs) book.inventory.legs
  pub room : sum book.inventory.authorised ≤ bookings.room
  pub seats : sold ≡ seats_sold book.inventory book.bookings
  pub worth : revenue ≡ revenue_of book.inventory book.bookings
