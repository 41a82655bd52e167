use Rattle.std.proofs.Common.{◌≡◌, map, take}
use Rattle.nrm_model.specs.declared.leg.Leg.{Leg}
use Rattle.nrm_plan.proofs.plan.full_seats.Given as goal

-- the authorised seats of the legs so far
abbrev pub invariant-loop-leg : goal.invariant-loop-leg
invariant-loop-leg l = l.seats ≡ map (λ (leg : Leg). leg.authorised) (take l.leg l.net.legs)
