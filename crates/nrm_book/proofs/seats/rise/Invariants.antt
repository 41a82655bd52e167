use Rattle.std.proofs.Common.{◌+◌}
use Rattle.nrm_book.specs.Seats.{CanRise}
use Rattle.nrm_book.proofs.CountChanges.{Changes, rise-apart}
use Rattle.nrm_book.proofs.seats.rise.Given as goal

abbrev pub invariant-loop-leg : goal.invariant-loop-leg
invariant-loop-leg l = Changes (λ sold. sold + l.party) (λ counts i. CanRise counts i l.party) (rise-apart l.party) l.initial.counts l.counts l.legs l.leg-index
