use Rattle.std.proofs.Common.{◌≡◌, map}
use Rattle.std.specs.List.{range_with_len}
use Rattle.nrm_model.specs.Stored.{numbers_using}
use Rattle.nrm_model.proofs.network.products_on_legs.Given as goal

abbrev pub invariant-loop-leg : goal.invariant-loop-leg
invariant-loop-leg l = map (λ v. v.items) l.on_legs.items ≡ map (numbers_using l.products) (range_with_len 0 l.leg)
