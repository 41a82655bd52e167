-- The numbers so far are within the greatest.
use Rattle.std.proofs.Common.{◌<◌, take}
use Rattle.nrm_fraction.specs.Large.{size_limit}
use Rattle.nrm_row.specs.Numbers.{IsBounded}
use Rattle.nrm_row.proofs.in_place.greatest.Given as goal

abbrev pub invariant-loop-number : goal.invariant-loop-number
invariant-loop-number l = IsBounded l.most (take l.number-index l.nums) × (l.most < size_limit)
