-- The walk goes down over the rows that are there; those between them are passed by.
use Rattle.std.proofs.Common.{◌≡◌, ◌+◌, ◌∙◌, arith, drop, subst, sym}
use Rattle.nrm_lp.specs.Tableau.{key_columns, leaving_from}
use Rattle.nrm_tableau.specs.Inner.Best.{listed}
use Rattle.nrm_tableau.specs.Inner.Walks.{HasNone, IsLast}
use Rattle.nrm_tableau.proofs.Turns.{walk_none, walk_down, walk_more, walked}
use Rattle.nrm_tableau.proofs.leaving.leaving_row.Goals as goal

pub loop-row-init : goal.loop-row-init
loop-row-init c = record {
  same = c.downwards-walk.ensures.words;
  within = omega (arith, c.requires.count, c.row_count.ensures.count, c.downwards-walk.ensures.end);
  candidate = tt;
  found = walk_none c.args.program.now c.args.rows.now c.args.col c.downwards-walk.result.end (omega (arith, c.requires.count, c.row_count.ensures.count, c.downwards-walk.ensures.end));
}

pub loop-row-preserved : goal.loop-row-preserved
loop-row-preserved c =
    let a = c.args.program.now in
    let rows = c.args.rows.now in
    let row = c.in-Some.row in
    let inv = c.loop-row.invariant in
    let at_row = c.in-Some.ensures.next.1 in
    let last : IsLast c.args.touched.now c.loop-row.walk.end row = subst (λ ws. IsLast ws c.loop-row.walk.end row) inv.same c.in-Some.ensures.next.0 in
    record {
      same = c.in-Some.ensures.words ∙ inv.same;
      within = omega (arith, last.before, inv.within, at_row);
      candidate = c.better_row-best.ensures.candidate;
      found = subst (λ k. listed a rows c.args.col c.better_row-best.result ≡ leaving_from (key_columns a) c.args.col k (drop k rows)) (sym at_row)
          (walk_more a rows c.args.col row c.loop-row.best c.better_row-best.result (omega (arith, last.before, inv.within)) c.better_row-best.ensures.better
          (walk_down a rows c.args.col (row + 1) c.loop-row.walk.end c.loop-row.best (omega (arith, last.before)) inv.within (λ k low high. c.requires.noughts k (omega (arith, high, inv.within)) (last.none k low high)) inv.found));
    }

pub returns : goal.returns
returns c =
    let a = c.args.program.now in
    let rows = c.args.rows.now in
    let inv = c.loop-row.invariant in
    let none : HasNone c.args.touched.now 0 c.loop-row.walk.end = subst (λ ws. HasNone ws 0 c.loop-row.walk.end) inv.same c.in_default.ensures.next in
    walked a rows c.args.col c.loop-row.best (walk_down a rows c.args.col 0 c.loop-row.walk.end c.loop-row.best (omega arith) inv.within (λ k low high. c.requires.noughts k (omega (arith, high, inv.within)) (none k low high)) inv.found)
