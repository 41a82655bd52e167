-- What the columns so far leave to the rest.
use Rattle.std.proofs.Common.{◌∙◌, sym, arith}
use Rattle.nrm_tableau.proofs.Turns.{enter_here, enter_later, enter_end}
use Rattle.nrm_tableau.proofs.leaving.entering_column.Goals as goal

pub returns-then-is_negative : goal.returns-then-is_negative
returns-then-is_negative c = enter_here c.loop-col.col c.args.value.now c.is_negative.result (omega (arith, c.width-end.ensures.width)) c.is_negative.ensures c.if-is_negative.true c.loop-col.invariant

pub loop-col-preserved : goal.loop-col-preserved
loop-col-preserved c = enter_later c.loop-col.col c.args.value.now c.is_negative.result (omega (arith, c.width-end.ensures.width)) c.is_negative.ensures c.if-is_negative.false c.loop-col.invariant

pub returns : goal.returns
returns c = sym (enter_end c.loop-col.col c.args.value.now (omega (arith, c.width-end.ensures.width))) ∙ c.loop-col.invariant
