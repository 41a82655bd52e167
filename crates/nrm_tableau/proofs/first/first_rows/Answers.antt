-- One more row.
use Rattle.nrm_tableau.proofs.FirstEntries.{rows_more}
use Rattle.nrm_tableau.proofs.first.first_rows.Goals as goal

pub loop-row-preserved : goal.loop-row-preserved
loop-row-preserved c = rows_more c.args.program.now c.loop-row.row c.loop-row.rows.items c.push.new.self.items c.in_ok-made.made c.loop-row.invariant c.in_ok-made.ensures c.in_ok-push.ensures.items
