use Rattle.std.proofs.Common.{◌≡◌, fold, map, min, take}
use Rattle.nrm_model.specs.Network.{leg_of, product_of}
use Rattle.nrm_model.proofs.network.Network.least_authorised.Given as goal

abbrev pub invariant-loop-leg : goal.invariant-loop-leg
invariant-loop-leg l = l.least ≡ fold min 65535 (map (λ i. (leg_of l.self i).authorised) (take l.leg-index (product_of l.self l.product).legs))
