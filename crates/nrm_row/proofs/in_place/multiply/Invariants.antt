-- The numbers so far are multiplied, and the rest are as they were.
use Rattle.std.proofs.Common.{◌≡◌, ◌++◌, ◌*ℤ◌, map, take, drop}
use Rattle.nrm_row.proofs.in_place.multiply.Given as goal

abbrev pub invariant-loop-x : goal.invariant-loop-x
invariant-loop-x l = l.xs ≡ map (λ x. x *ℤ l.fn.e) (take l.x-index l.initial.xs) ++ drop l.x-index l.initial.xs
