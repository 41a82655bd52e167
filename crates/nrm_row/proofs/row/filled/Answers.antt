-- One more entry is written.
use Rattle.std.proofs.Common.{arith, ap, ◌∙◌, pos}
use Rattle.std.proofs.lemmas.List.FromFn.{fill_by_all}
use Rattle.nrm_fraction.specs.Rows.{number_at}
use Rattle.nrm_row.proofs.Filled.{filled_more, all_taken}
use Rattle.nrm_row.proofs.row.filled.Goals as goal

pub loop-col-preserved : goal.loop-col-preserved
loop-col-preserved c = filled_more c.args.width c.args.entries.now c.loop-col.made.items c.loop-col.col-index c.from-in-loop-col.result c.requires c.loop-col-test.true c.from-in-loop-col.ensures c.loop-col.invariant

pub returns : goal.returns
returns c =
    fill_by_all (λ k. number_at c.args.entries.now k) c.loop-col.made.items c.args.width (pos 0) c.loop-col.invariant.0
    (λ k h. c.loop-col.invariant.1 k h ∙ ap (λ es. number_at es k) (all_taken c.args.entries.now c.loop-col.col-index (omega arith)))
