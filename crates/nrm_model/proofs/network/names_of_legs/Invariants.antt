use Rattle.std.proofs.Common.{◌≡◌, map, take}
use Rattle.nrm_model.specs.declared.leg.Leg.{Leg}
use Rattle.nrm_model.proofs.network.names_of_legs.Given as goal

abbrev pub invariant-loop-leg : goal.invariant-loop-leg
invariant-loop-leg l = l.names ≡ map (λ (leg : Leg). leg.name) (take l.leg-index l.legs)
