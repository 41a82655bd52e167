use Rattle.nrm_cluster.specs.Points.{PointsValue}
use Rattle.nrm_cluster.proofs.Walks.{centres-more}
use Rattle.nrm_cluster.proofs.cuts.centres_of.Goals as goal

pub loop-k-preserved : goal.loop-k-preserved
loop-k-preserved c =
    let p : PointsValue = record { values = c.args.values.now; weights = c.args.weights.now } in
    centres-more p c.args.lengths.now c.loop-k.k c.loop-k.a _ _ _ c.loop-k-test.true c.loop-k.invariant c.centre.ensures.whole c.in_ok-push.ensures.items
