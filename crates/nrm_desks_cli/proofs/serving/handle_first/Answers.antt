use Rattle.std.proofs.Common.{arith, inr}
use Rattle.nrm_desks_cli.proofs.Rooms.{whole-is}
use Rattle.nrm_desks_cli.proofs.serving.handle_first.Goals as goal

pub handle-handled-requires-clause-payload : goal.handle-handled-requires-clause-payload
handle-handled-requires-clause-payload g c =
    (whole-is c.args.waiting.now c.in-Whole.header c.in-Whole.payload.now c.in-Whole.rest.now c.in-Whole.ensures).size

pub overflow_sub-result : goal.overflow_sub-result
overflow_sub-result g c =
    let is = whole-is c.args.waiting.now c.in-Whole.header c.in-Whole.payload.now c.in-Whole.rest.now c.in-Whole.ensures in
    omega (arith, is.short)

pub returns-in-Whole-clause-first : goal.returns-in-Whole-clause-first
returns-in-Whole-clause-first g c =
    let is = whole-is c.args.waiting.now c.in-Whole.header c.in-Whole.payload.now c.in-Whole.rest.now c.in-Whole.ensures in
    inr (record {
      header = c.in-Whole.header;
      payload = c.in-Whole.payload.now;
      rest = c.in-Whole.rest.now;
      cut = c.in-Whole.ensures;
      within = omega (arith, is.short);
      some = omega (arith, is.short);
      rest_is = is.behind;
      handles = c.handle-handled.ensures.handles;
    })
