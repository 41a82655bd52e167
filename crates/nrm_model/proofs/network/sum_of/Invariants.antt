use Rattle.std.proofs.Common.{◌≡◌, sum, take}
use Rattle.nrm_model.proofs.network.sum_of.Given as goal

abbrev pub invariant-loop-demand : goal.invariant-loop-demand
invariant-loop-demand l = l.sum ≡ sum (take l.demand-index l.demands)
