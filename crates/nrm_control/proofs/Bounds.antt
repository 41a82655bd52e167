-- The value of hindsight bounds the requests of each state that a controller represents.
use Rattle.std.proofs.Common.{ℕ, ◌≤◌, List, Result, Ok, Err, IfOk, pos, refl, sym, subst}
use Rattle.nrm_fraction.specs.Fraction.{Fraction, ◌over◌}
use Rattle.nrm_model.specs.Inventory.{inventory_of, authorised_of}
use Rattle.nrm_simplex.specs.declared.fault.SolveFault.{SolveFault}
use Rattle.nrm_dlp.specs.Hindsight.{IsHindsight}
use Rattle.nrm_book.specs.declared.booking.Booking.{Booking}
use Rattle.nrm_book.specs.Bookings.{sold_on}
use Rattle.nrm_hindsight.proofs.Selections.{bookings-selected, selections-bounded}
use Rattle.nrm_control.specs.Standing.{BoundsRequests, ControlValue, IsControl, book_of}
use Rattle.nrm_control.proofs.AfterCalls.{fits-of}

pub bounds-requests : (control : ControlValue) (value : Fraction) → IsControl control → IsHindsight control.net control.tallies value → BoundsRequests control value
bounds-requests control value is found s stands = (
  selections-bounded control.net s.requests value is.network (subst (λ (tallies : List ℕ). IsHindsight control.net tallies value) (sym stands.tallies) found),
  (bookings-selected control.net s.requests s.bookings stands.choice
      (λ i few. subst (λ (bookings : List Booking). sold_on (inventory_of control.net) bookings i ≤ authorised_of (inventory_of control.net) i) (sym stands.bookings) (fits-of control.net (book_of control) refl is.book i few))).0,
)

pub bounds-told : (control : ControlValue) (told : Result (ℕ × ℕ) SolveFault) → IsControl control → IfOk told (λ value. IsHindsight control.net control.tallies (pos value.0 over value.1)) → IfOk told (λ value. BoundsRequests control (pos value.0 over value.1))
bounds-told control (Ok value) is found = bounds-requests control (pos value.0 over value.1) is found
bounds-told control (Err fault) is found = tt
