use Rattle.std.proofs.Common.{◌-◌}
use Rattle.nrm_book.specs.Seats.{CanFall}
use Rattle.nrm_book.proofs.CountChanges.{Changes, fall-apart}
use Rattle.nrm_book.proofs.seats.fall.Given as goal

abbrev pub invariant-loop-leg : goal.invariant-loop-leg
invariant-loop-leg l = Changes (λ sold. sold - l.party) (λ counts i. CanFall counts i l.party) (fall-apart l.party) l.initial.counts l.counts l.legs l.leg-index
