-- The legs so far have a list each.
use Rattle.std.proofs.Common.{◌≡◌, ◌∷◌, [], map}
use Rattle.std.specs.List.{range_with_len}
use Rattle.nrm_solver_tests.proofs.simplex.legs_of_singles.Given as goal

abbrev pub invariant-loop-leg : goal.invariant-loop-leg
invariant-loop-leg l = map (λ v. v.items) l.legs.items ≡ map (λ j. j ∷ []) (range_with_len 0 l.leg)
