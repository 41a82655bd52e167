use Rattle.std.proofs.Common.{◌≡◌, ◌++◌, map, take}
use Rattle.nrm_dual.specs.Reading.{times}
use Rattle.nrm_dual.proofs.amounts.put_times.Given as goal

abbrev pub invariant-loop-fraction : goal.invariant-loop-fraction
invariant-loop-fraction l = l.made.items ≡ l.fn.made.items ++ map (times l.n) (take l.fraction-index l.given)
