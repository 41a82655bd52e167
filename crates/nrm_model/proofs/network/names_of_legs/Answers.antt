use Rattle.std.proofs.Common.{arith}
use Rattle.nrm_model.specs.declared.leg.Leg.{Leg}
use Rattle.nrm_model.proofs.NameLemmas.{none-earlier}
use Rattle.nrm_model.proofs.network.names_of_legs.Goals as goal

pub add-requires : goal.add-requires
add-requires c = none-earlier (λ (leg : Leg). leg.name) c.args.legs.now c.loop-leg.leg-index c.leg-item.result c.loop-leg.names c.requires (omega arith) c.leg-item.is c.loop-leg.invariant
