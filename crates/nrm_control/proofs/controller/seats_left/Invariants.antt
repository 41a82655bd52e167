use Rattle.std.proofs.Common.{◌≡◌, map}
use Rattle.std.specs.List.{range_with_len}
use Rattle.nrm_book.specs.Bookings.{left_on}
use Rattle.nrm_control.proofs.controller.seats_left.Given as goal

-- the seats left on the legs so far
abbrev pub invariant-loop-leg : goal.invariant-loop-leg
invariant-loop-leg l = l.left ≡ map (left_on l.book.inventory l.book.bookings) (range_with_len 0 l.leg)
