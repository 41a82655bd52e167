use Rattle.std.proofs.Common.{length, arith}
use Rattle.nrm_cluster.specs.Points.{PointsValue}
use Rattle.nrm_cluster.proofs.Columns.{column-read}
use Rattle.nrm_cluster.proofs.Choices.{picked, pick-there}
use Rattle.nrm_cluster.proofs.chosen.chosen_division.Goals as goal

pub best_pick-pick-requires : goal.best_pick-pick-requires
best_pick-pick-requires c =
    let p : PointsValue = record { values = c.args.values.now; weights = c.args.weights.now } in
    column-read p c.args.groups c.in_ok-columns.columns.items (length c.args.values.now) c.index.result.now c.deref.result.now c.in_ok-columns.ensures.columns (omega (arith, c.in_ok-columns.ensures.count)) c.index.ensures c.deref.ensures.value

pub lengths_of-requires-clause-there : goal.lengths_of-requires-clause-there
lengths_of-requires-clause-there c =
    let p : PointsValue = record { values = c.args.values.now; weights = c.args.weights.now } in
    pick-there p c.args.groups c.best_pick-pick.result c.requires.some c.requires.groups c.best_pick-pick.ensures.pick

pub returns-clause-chosen : goal.returns-clause-chosen
returns-clause-chosen c =
    let p : PointsValue = record { values = c.args.values.now; weights = c.args.weights.now } in
    (picked p c.args.groups c.best_pick-pick.result c.in_ok-lengths.lengths.items c.requires.some c.requires.groups c.best_pick-pick.ensures.pick c.in_ok-lengths.ensures).0

pub returns-clause-cost : goal.returns-clause-cost
returns-clause-cost c =
    let p : PointsValue = record { values = c.args.values.now; weights = c.args.weights.now } in
    (picked p c.args.groups c.best_pick-pick.result c.in_ok-lengths.lengths.items c.requires.some c.requires.groups c.best_pick-pick.ensures.pick c.in_ok-lengths.ensures).1
