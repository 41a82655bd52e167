use Rattle.std.proofs.Common.{arith, ap, length}
use Rattle.nrm_legdp.proofs.Filling.{table-protections, table-rows, table-width}
use Rattle.nrm_nests_tests.proofs.legdp.said.Goals as goal

pub protection-protection-requires : goal.protection-protection-requires
protection-protection-requires c = omega (arith, table-protections _ c.args.seats _ c.in_ok-table.ensures.values, ap length c.deref.ensures.value, c.len-count.ensures, c.if-count-gt1.true)

pub value-requires-clause-class : goal.value-requires-clause-class
value-requires-clause-class c = omega (arith, table-rows _ c.args.seats _ c.in_ok-table.ensures.values, ap length c.deref.ensures.value, c.len-count.ensures)

pub value-requires-clause-seat : goal.value-requires-clause-seat
value-requires-clause-seat c = omega (arith, table-width _ c.args.seats c.len-count.result _ c.in_ok-table.ensures.values (omega (arith, ap length c.deref.ensures.value, c.len-count.ensures)))
