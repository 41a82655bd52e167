use Rattle.std.proofs.Common.{arith}
use Rattle.nrm_cluster.specs.Points.{PointsValue}
use Rattle.nrm_cluster.proofs.Bounds.{division-below}
use Rattle.nrm_cluster.proofs.Nearest.{no-grouping-costs-less}
use Rattle.nrm_cluster.proofs.cuts.best_cuts.Goals as goal

pub returns-clause-least : goal.returns-clause-least
returns-clause-least c = λ g is.
    let p : PointsValue = record { values = c.args.values.now; weights = c.args.weights.now } in
    omega (arith, c.in_ok-division.ensures.cost, no-grouping-costs-less p c.args.groups c.in_ok-division.division.lengths.items g c.requires.points.falling c.in_ok-division.ensures.chosen is)

pub returns-clause-small : goal.returns-clause-small
returns-clause-small c =
    let p : PointsValue = record { values = c.args.values.now; weights = c.args.weights.now } in
    omega (arith, c.in_ok-division.ensures.cost, division-below p 0 c.in_ok-division.division.lengths.items c.requires.points, c.in_ok-division.ensures.chosen.division.whole, c.requires.points.count)
