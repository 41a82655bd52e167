-- The numbers so far are divided, and the rest are as they were.
use Rattle.std.proofs.Common.{◌≡◌, ◌++◌, map, take, drop, unsigned_abs}
use Rattle.nrm_number.specs.Gcd.{shrink}
use Rattle.nrm_row.proofs.lowest.divide_in_place.Given as goal

abbrev pub invariant-loop-number : goal.invariant-loop-number
invariant-loop-number l =
    l.nums ≡ map (λ n. shrink n (unsigned_abs l.fn.g)) (take l.number-index l.initial.nums) ++ drop l.number-index l.initial.nums
