-- The text of the reply joins what waits, and behind several lines an empty one.
use Rattle.std.proofs.Common.{[], ◌∷◌}
use Rattle.nrm_hub.proofs.LineAnswers.{behind-lines, look-cut, look-told}
use Rattle.nrm_hub.proofs.line.tell_look.Goals as goal

pub returns-then-is_err : goal.returns-then-is_err
returns-then-is_err c =
    look-cut c.put_reply.result c.controller.result.now c.args.register.now.control c.args.reply c.args.told.now.waiting
    c.put_reply.new.sink.waiting c.controller.ensures c.is_err.result c.is_err.ensures.value c.if-is_err.true c.put_reply.ensures.cut

pub returns-in-Leg : goal.returns-in-Leg
returns-in-Leg c =
    let control = c.args.register.now.control in
    look-told c.put_reply.result c.controller.result.now control c.args.reply c.args.told.now.waiting
    c.put_reply.new.sink.waiting c.controller.ensures c.is_err.result c.is_err.ensures.value c.if-is_err.false c.put_reply.ensures.whole
    c.tell.new.told.waiting (10 ∷ []) c.tell.result (behind-lines control c.args.reply c.in-Leg.is) c.tell.ensures
