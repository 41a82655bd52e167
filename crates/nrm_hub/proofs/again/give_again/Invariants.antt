-- Some first rows were given again, and `rest` is what stands behind them.
use Rattle.std.proofs.Common.{length}
use Rattle.nrm_hub.proofs.AgainRows.{AgainSoFar}
use Rattle.nrm_hub.proofs.again.give_again.Given as goal

abbrev pub invariant-loop-rest : goal.invariant-loop-rest
invariant-loop-rest l = AgainSoFar l.fn.register l.register l.payload l.rest

abbrev pub decreases-loop-rest : goal.decreases-loop-rest
decreases-loop-rest l = length l.rest
