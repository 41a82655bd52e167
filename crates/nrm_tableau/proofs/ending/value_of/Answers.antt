-- What the rows so far leave to the rest.
use Rattle.std.proofs.Common.{◌∙◌, arith}
use Rattle.nrm_tableau.proofs.LastRows.{value_later, value_none}
use Rattle.nrm_tableau.proofs.ending.value_of.Goals as goal

pub loop-row-preserved : goal.loop-row-preserved
loop-row-preserved c = value_later c.args.end c.args.product c.args.basis.now c.args.rows.now c.loop-row.row (omega (arith, c.requires.count)) (omega arith) c.if-basis-row.false c.loop-row.invariant

pub returns : goal.returns
returns c = c.new.ensures ∙ value_none c.args.end c.args.product c.args.basis.now c.args.rows.now c.loop-row.row (omega (arith, c.requires.count)) c.loop-row.invariant
