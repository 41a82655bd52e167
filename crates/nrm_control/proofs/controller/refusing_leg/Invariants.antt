use Rattle.std.proofs.Common.{◌≡◌, drop, find}
use Rattle.nrm_control.specs.Verdict.{leg_refuses}
use Rattle.nrm_control.proofs.controller.refusing_leg.Given as goal

-- no leg so far refuses
abbrev pub invariant-loop-leg : goal.invariant-loop-leg
invariant-loop-leg l = find (leg_refuses l.net l.plan l.book.bookings l.product l.party) l.legs ≡ find (leg_refuses l.net l.plan l.book.bookings l.product l.party) (drop l.leg-index l.legs)
