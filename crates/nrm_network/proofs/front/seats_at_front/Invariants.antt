use Rattle.std.proofs.Common.{◌≡◌, ◌+◌, length, take}
use Rattle.nrm_network.proofs.FrontRows.{SeatsBefore}
use Rattle.nrm_network.proofs.front.seats_at_front.Given as goal

-- the numbers before the place were written
abbrev pub invariant-loop-i : goal.invariant-loop-i
invariant-loop-i l = (length l.seats ≡ l.last + 1) × SeatsBefore l.bytes l.left (take l.i l.seats)
