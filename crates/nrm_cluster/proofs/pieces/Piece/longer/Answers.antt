use Rattle.std.proofs.Common.{◌+◌, arith, refl, ap, ◌∙◌}
use Rattle.nrm_cluster.specs.declared.pieces.Piece.{Piece}
use Rattle.nrm_cluster.specs.declared.pieces.Sum.{Sum}
use Rattle.nrm_cluster.specs.Points.{PointsValue}
use Rattle.nrm_cluster.proofs.Growing.{grown, piece-made, sum-next, sum-small}
use Rattle.nrm_cluster.proofs.pieces.Piece.longer.Goals as goal

pub added-whole-requires-clause-small : goal.added-whole-requires-clause-small
added-whole-requires-clause-small c =
    let p : PointsValue = record { values = c.args.values.now; weights = c.args.weights.now } in
    sum-small p c.args.self.start c.args.self.count c.args.self.whole c.requires.points (omega (arith, c.requires.more)) (ap (λ (q : Piece). q.whole) c.requires.piece)

pub next_middle-middle-requires-clause-whole : goal.next_middle-middle-requires-clause-whole
next_middle-middle-requires-clause-whole c =
    let p : PointsValue = record { values = c.args.values.now; weights = c.args.weights.now } in
    ap (λ (s : Sum). s.weight) (sum-next p c.args.self.start c.args.self.count _ _ c.args.self.whole c.added-whole.result (ap (λ (q : Piece). q.whole) c.requires.piece) refl refl c.added-whole.ensures.weight c.added-whole.ensures.worth)

pub bounds-values-middle : goal.bounds-values-middle
bounds-values-middle c =
    let p : PointsValue = record { values = c.args.values.now; weights = c.args.weights.now } in
    (grown p c.args.self.start c.args.self.count c.args.self.whole c.added-whole.result c.next_middle-middle.result c.requires.points c.requires.more (ap (λ (q : Piece). q.whole) c.requires.piece) c.added-whole.ensures.weight c.added-whole.ensures.worth c.next_middle-middle.ensures).within

pub cost_at-cost-requires : goal.cost_at-cost-requires
cost_at-cost-requires c =
    let p : PointsValue = record { values = c.args.values.now; weights = c.args.weights.now } in
    (grown p c.args.self.start c.args.self.count c.args.self.whole c.added-whole.result c.next_middle-middle.result c.requires.points c.requires.more (ap (λ (q : Piece). q.whole) c.requires.piece) c.added-whole.ensures.weight c.added-whole.ensures.worth c.next_middle-middle.ensures).parts

pub returns-clause-piece : goal.returns-clause-piece
returns-clause-piece c =
    let p : PointsValue = record { values = c.args.values.now; weights = c.args.weights.now } in
    let is = grown p c.args.self.start c.args.self.count c.args.self.whole c.added-whole.result c.next_middle-middle.result c.requires.points c.requires.more (ap (λ (q : Piece). q.whole) c.requires.piece) c.added-whole.ensures.weight c.added-whole.ensures.worth c.next_middle-middle.ensures in
    piece-made p c.args.self.start (c.args.self.count + 1) c.cost_at-cost.result c.added-whole.result c.next_middle-middle.result is.sum c.next_middle-middle.ensures (c.cost_at-cost.ensures ∙ is.cost)

pub returns-clause-small : goal.returns-clause-small
returns-clause-small c =
    let p : PointsValue = record { values = c.args.values.now; weights = c.args.weights.now } in
    let is = grown p c.args.self.start c.args.self.count c.args.self.whole c.added-whole.result c.next_middle-middle.result c.requires.points c.requires.more (ap (λ (q : Piece). q.whole) c.requires.piece) c.added-whole.ensures.weight c.added-whole.ensures.worth c.next_middle-middle.ensures in
    omega (arith, c.cost_at-cost.ensures, is.cost, is.cheap)

pub offset_bounds-values-middle : goal.offset_bounds-values-middle
offset_bounds-values-middle c =
    let p : PointsValue = record { values = c.args.values.now; weights = c.args.weights.now } in
    let is = grown p c.args.self.start c.args.self.count c.args.self.whole c.added-whole.result c.next_middle-middle.result c.requires.points c.requires.more (ap (λ (q : Piece). q.whole) c.requires.piece) c.added-whole.ensures.weight c.added-whole.ensures.worth c.next_middle-middle.ensures in
    omega (arith, is.within, c.requires.points.count)
