-- The sets of the slacks follow those of the products.
use Rattle.std.proofs.Common.{◌≡◌, ◌+◌, arith, subst}
use Rattle.nrm_lp.specs.Tableau.{product_count, right_side}
use Rattle.nrm_tableau.proofs.Sets.{CoversTo, covers_more, covers_all, slack_covers}
use Rattle.nrm_tableau.proofs.first.first_sets.Goals as goal

pub loop-row-preserved : goal.loop-row-preserved
loop-row-preserved c =
    let a = c.args.program.now in
    let next : product_count a + c.loop-row.row + 1 ≡ product_count a + (c.loop-row.row + 1) = omega arith in
    subst (CoversTo a c.push-in-loop-row.new.self.items) next
    (covers_more a c.loop-row.sets.items c.push-in-loop-row.new.self.items c.of.result (product_count a + c.loop-row.row) c.loop-row.invariant (slack_covers a c.loop-row.row c.of.result (omega (arith, c.loop-row-test.true, c.row_count-row-end.ensures.count)) c.of.ensures) c.in_ok-push-2.ensures.items)

pub returns : goal.returns
returns c =
    let a = c.args.program.now in
    let all : product_count a + c.loop-row.row ≡ right_side a = omega (arith, c.loop-row-test.false, c.row_count-row-end.ensures.count) in
    covers_all a c.loop-row.sets.items (product_count a + c.loop-row.row) all c.loop-row.invariant
