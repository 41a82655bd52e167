use Rattle.std.proofs.Common.{◌≡◌, drop}
use Rattle.nrm_fraction.specs.Large.{size_limit}
use Rattle.nrm_dual.specs.Conditions.{are_small}
use Rattle.nrm_dual.proofs.shape.are_small.Given as goal

abbrev pub invariant-loop-number : goal.invariant-loop-number
invariant-loop-number l = are_small size_limit (drop l.number-index l.numbers) ≡ are_small size_limit l.numbers
