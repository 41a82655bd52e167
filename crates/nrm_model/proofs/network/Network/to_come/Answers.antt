use Rattle.std.proofs.Common.{◌-◌, arith}
use Rattle.nrm_model.proofs.DemandLemmas.{sum-end}
use Rattle.nrm_model.proofs.network.Network.to_come.Goals as goal

pub sum_of-requires : goal.sum_of-requires
sum_of-requires c = omega (arith, sum-end c.row.result.now (c.args.period - 1))

pub returns-clause-within : goal.returns-clause-within
returns-clause-within c = omega (arith, sum-end c.row.result.now (c.args.period - 1))
