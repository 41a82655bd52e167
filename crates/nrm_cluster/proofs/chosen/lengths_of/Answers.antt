use Rattle.std.proofs.Common.{◌-◌, arith, rules, refl, length}
use Rattle.nrm_cluster.specs.Points.{PointsValue}
use Rattle.nrm_cluster.proofs.Columns.{column-read}
use Rattle.nrm_cluster.proofs.Choices.{walk-more}
use Rattle.nrm_cluster.proofs.chosen.lengths_of.Goals as goal

pub index-requires : goal.index-requires
index-requires c =
    let p : PointsValue = record { values = c.args.values.now; weights = c.args.weights.now } in
    let long = (column-read p c.args.groups c.args.columns.now (length c.args.values.now - c.loop-done.a) c.index-columns-values.result _ c.requires.columns (omega (arith, c.requires.count)) c.index-columns-values.is refl).long in
    search (rules, long, c.requires.within)

pub loop-done-preserved : goal.loop-done-preserved
loop-done-preserved c =
    let p : PointsValue = record { values = c.args.values.now; weights = c.args.weights.now } in
    walk-more p c.args.groups c.args.pieces c.loop-done.done c.loop-done.a c.from-first.result c.args.columns.now c.index-columns-values.result c.index.result.now _ _ c.requires.columns c.requires.count c.requires.within c.loop-done-test.true c.index-columns-values.is c.index.ensures c.from-first.ensures c.in_ok-push.ensures.items c.loop-done.invariant
