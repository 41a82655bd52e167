use Rattle.std.proofs.Common.{◌+◌, ◌-◌, arith, refl, ap, subst, ◌≡◌}
use Rattle.nrm_cluster.specs.declared.pieces.Piece.{Piece}
use Rattle.nrm_cluster.specs.declared.pieces.Sum.{Sum}
use Rattle.nrm_cluster.specs.Points.{PointsValue}
use Rattle.nrm_cluster.proofs.Growing.{HasCome, last-is-middle, search-ends, search-goes-on, search-starts, sum-small, sum-upto}
use Rattle.nrm_cluster.proofs.Bounds.{weight-below}
use Rattle.nrm_cluster.proofs.pieces.Piece.next_middle.Goals as goal

pub loop-place-init : goal.loop-place-init
loop-place-init c =
    let p : PointsValue = record { values = c.args.values.now; weights = c.args.weights.now } in
    search-starts p c.args.self.start c.args.self.count c.args.self.middle (ap (λ (q : Piece). q.middle) c.requires.piece)

pub added-upto-requires-clause-small : goal.added-upto-requires-clause-small
added-upto-requires-clause-small c =
    let p : PointsValue = record { values = c.args.values.now; weights = c.args.weights.now } in
    sum-small p c.args.self.start (c.loop-place.place - c.args.self.start) c.loop-place.above c.requires.points (omega (arith, c.loop-place.invariant.from, c.loop-place.invariant.within, c.requires.more)) c.loop-place.invariant.sum

pub returns-then-whole-upto : goal.returns-then-whole-upto
returns-then-whole-upto c =
    let p : PointsValue = record { values = c.args.values.now; weights = c.args.weights.now } in
    let upto = sum-upto p c.args.self.start (c.args.self.count + 1) c.loop-place.place _ _ c.loop-place.above c.added-upto.result c.loop-place.invariant refl refl c.added-upto.ensures.weight c.added-upto.ensures.worth in
    search-ends p c.args.self.start (c.args.self.count + 1) c.loop-place.place c.loop-place.above c.loop-place.invariant
    (omega (arith, c.requires.whole, c.if-whole-upto.true, ap (λ (s : Sum). s.weight) upto))

pub loop-place-preserved : goal.loop-place-preserved
loop-place-preserved c =
    let p : PointsValue = record { values = c.args.values.now; weights = c.args.weights.now } in
    let upto = sum-upto p c.args.self.start (c.args.self.count + 1) c.loop-place.place _ _ c.loop-place.above c.added-upto.result c.loop-place.invariant refl refl c.added-upto.ensures.weight c.added-upto.ensures.worth in
    search-goes-on p c.args.self.start (c.args.self.count + 1) c.loop-place.place _ c.loop-place.above c.added-upto.result c.loop-place.invariant (omega (arith, c.loop-place-test.true)) c.requires.whole upto c.if-whole-upto.false

pub overflow_mul-upto : goal.overflow_mul-upto
overflow_mul-upto c =
    let p : PointsValue = record { values = c.args.values.now; weights = c.args.weights.now } in
    let small = sum-small p c.args.self.start (c.loop-place.place - c.args.self.start) c.loop-place.above c.requires.points (omega (arith, c.loop-place.invariant.from, c.loop-place.invariant.within, c.requires.more)) c.loop-place.invariant.sum in
    omega (arith, small.weight, c.added-upto.ensures.weight, weight-below p c.loop-place.place c.requires.points)

pub returns : goal.returns
returns c =
    let p : PointsValue = record { values = c.args.values.now; weights = c.args.weights.now } in
    let last : c.loop-place.place ≡ c.args.self.start + c.args.self.count = omega (arith, c.loop-place.invariant.within, c.loop-place-test.false) in
    last-is-middle p c.args.self.start c.args.self.count _ c.loop-place.above (subst (λ k. HasCome p c.args.self.start (c.args.self.count + 1) k c.loop-place.above) last c.loop-place.invariant) (omega arith)
