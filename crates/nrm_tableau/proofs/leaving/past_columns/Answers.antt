-- Four columns more don't enter.
use Rattle.std.proofs.Common.{arith}
use Rattle.nrm_tableau.proofs.Turns.{enter_past}
use Rattle.nrm_tableau.proofs.leaving.past_columns.Goals as goal

pub loop-col-preserved : goal.loop-col-preserved
loop-col-preserved c = (omega arith, enter_past c.loop-col.col 4 c.args.value.now (omega (arith, c.requires)) (c.none_is_negative.ensures c.if-none_is_negative.true) c.loop-col.invariant.1)
