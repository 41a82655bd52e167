use Rattle.std.proofs.Common.{◌<◌, arith, length}
use Rattle.nrm_cluster.specs.Points.{PointsValue}
use Rattle.nrm_cluster.proofs.Growing.{centre-within-all}
use Rattle.nrm_cluster.proofs.pieces.centre.Goals as goal

pub loop-init : goal.loop-init
loop-init c = c.at-piece.ensures (record { values = c.args.values.now; weights = c.args.weights.now })

pub bounds-values-piece : goal.bounds-values-piece
bounds-values-piece c =
    let p : PointsValue = record { values = c.args.values.now; weights = c.args.weights.now } in
    centre-within-all p c.args.a c.loop.counter c.loop.piece (omega (arith, c.requires.some, c.loop-test.false)) (omega (arith, c.requires.within, c.loop.auto.counter-end)) c.loop.invariant

pub offset_bounds-values-piece : goal.offset_bounds-values-piece
offset_bounds-values-piece c =
    let p : PointsValue = record { values = c.args.values.now; weights = c.args.weights.now } in
    let within : c.loop.piece.middle.place < length c.args.values.now =
    centre-within-all p c.args.a c.loop.counter c.loop.piece (omega (arith, c.requires.some, c.loop-test.false)) (omega (arith, c.requires.within, c.loop.auto.counter-end)) c.loop.invariant in
    omega (arith, within, c.requires.points.count)
