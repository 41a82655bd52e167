use Rattle.std.proofs.Common.{arith}
use Rattle.nrm_model.specs.Demand.{demand_to_come}
use Rattle.nrm_model.proofs.DemandLemmas.{sum-range-more}
use Rattle.nrm_model.proofs.network.Network.total.Goals as goal

pub loop-history-preserved : goal.loop-history-preserved
loop-history-preserved c =
    let more = sum-range-more (λ h. demand_to_come c.args.self.now c.args.product h c.args.period) c.loop-history.history in
    record {
      seats = cc;
      within = omega arith;
    }
