use Rattle.std.proofs.Common.{arith, refl}
use Rattle.nrm_cluster.specs.Points.{PointsValue}
use Rattle.nrm_cluster.proofs.Walks.{cuts-more}
use Rattle.nrm_cluster.proofs.cuts.last_values.Goals as goal

pub loop-k-preserved : goal.loop-k-preserved
loop-k-preserved c =
    let p : PointsValue = record { values = c.args.values.now; weights = c.args.weights.now } in
    cuts-more p c.args.lengths.now c.loop-k.k c.loop-k.a _ _ _ (omega arith) c.loop-k.invariant refl c.in_ok-push.ensures.items
