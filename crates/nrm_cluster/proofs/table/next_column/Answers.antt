use Rattle.std.proofs.Common.{◌-◌, ◌+◌, ◌≡◌, ◌∙◌, arith, sym, ap, subst, length, get_or}
use Rattle.nrm_cluster.specs.declared.pieces.Piece.{Piece}
use Rattle.nrm_cluster.specs.Points.{PointsValue}
use Rattle.nrm_cluster.specs.Inner.Cells.{cheaper_of, led_of}
use Rattle.nrm_cluster.proofs.Columns.{IsColumnSoFar, column-read, column-small, column-more, column-done, column-starts, written-over}
use Rattle.nrm_cluster.proofs.Growing.{piece-grows}
use Rattle.nrm_cluster.proofs.table.next_column.Goals as goal

pub add_first-requires-clause-same : goal.add_first-requires-clause-same
add_first-requires-clause-same c =
    let p : PointsValue = record { values = c.args.values.now; weights = c.args.weights.now } in
    let rest = column-read p c.args.groups c.args.columns.now (length c.args.columns.now - (c.loop-before.before + 1)) c.index-columns-left.result _ c.requires.columns (omega arith) c.index-columns-left.is c.deref.ensures.value in
    omega (arith, rest.long, c.loop-before.invariant.column.long, ap length c.deref_mut.ensures.value)

pub add_first-requires-clause-small : goal.add_first-requires-clause-small
add_first-requires-clause-small c =
    let p : PointsValue = record { values = c.args.values.now; weights = c.args.weights.now } in
    let rest = column-read p c.args.groups c.args.columns.now (length c.args.columns.now - (c.loop-before.before + 1)) c.index-columns-left.result _ c.requires.columns (omega arith) c.index-columns-left.is c.deref.ensures.value in
    column-small p c.args.groups (length c.args.columns.now - (c.loop-before.before + 1)) _ c.requires.points (omega (arith, c.requires.left)) rest

pub loop-before-init : goal.loop-before-init
loop-before-init c =
    let p : PointsValue = record { values = c.args.values.now; weights = c.args.weights.now } in
    record {
      column = column-starts p c.args.groups (length c.args.columns.now) _ c.in_ok-column.ensures.long c.in_ok-column.ensures.first c.in_ok-column.ensures.cells;
      piece = c.at-piece.ensures p;
    }

pub loop-before-preserved : goal.loop-before-preserved
loop-before-preserved c =
    let p : PointsValue = record { values = c.args.values.now; weights = c.args.weights.now } in
    let left = length c.args.columns.now in
    let before = c.loop-before.before in
    let old = c.loop-before.column.items in
    let same : c.deref_mut.result.now ≡ old = c.deref_mut.ensures.value in
    let rest = column-read p c.args.groups c.args.columns.now (left - (before + 1)) c.index-columns-left.result _ c.requires.columns (omega arith) c.index-columns-left.is c.deref.ensures.value in
    let long : length c.add_first.new.column ≡ length old = c.add_first.ensures.long ∙ ap length same in
    let grown = piece-grows p (length c.args.values.now - left) before c.loop-before.piece c.longer-piece.result c.loop-before.invariant.piece c.longer-piece.ensures.piece in
    record {
      column = subst (IsColumnSoFar p c.args.groups left (before + 1)) (sym (written-over c.add_first.new.column old c.loop-before.column.len long (sym c.deref_mut.ensures.len ∙ ap length same)))
          (column-more p c.args.groups left before c.longer-piece.result.cost old c.add_first.new.column c.deref.result.now c.loop-before-test.true c.requires.left (ap (λ (q : Piece). q.cost) grown) rest long
          (λ d. c.add_first.ensures.none d ∙ ap (λ xs. get_or xs 0 d) same)
          (λ k d short. subst (λ xs. get_or c.add_first.new.column (k + 1) d ≡ cheaper_of (get_or xs (k + 1) d) (led_of c.longer-piece.result.cost (before + 1) (get_or c.deref.result.now k d))) same (c.add_first.ensures.cells k d (omega (arith, ap length same))))
          c.loop-before.invariant.column);
      piece = grown;
    }

pub returns : goal.returns
returns c =
    column-done (record { values = c.args.values.now; weights = c.args.weights.now }) c.args.groups (length c.args.columns.now) c.loop-before.before c.loop-before.column.items (omega (arith, c.loop-before-test.false)) (omega arith) c.loop-before.invariant.column
