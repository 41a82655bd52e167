-- What the client may not have is denied; what changes nothing is looked up.
use Rattle.std.proofs.Common.{◌∙◌, sym}
use Rattle.nrm_session.specs.Answering.{reply_in}
use Rattle.nrm_hub.specs.Lines.{denied_line, is_denied, looks, otherwise, passed, told_text}
use Rattle.nrm_hub.proofs.LineAnswers.{answered-line}
use Rattle.nrm_hub.proofs.line.answer_command.Goals as goal

pub returns-then-not-allows : goal.returns-then-not-allows
returns-then-not-allows c = λ line says.
    let r = c.args.register.now in
    answered-line r r c.args.asker.rights c.args.asker.desk c.args.asker.sequence line c.args.told.now.waiting c.tell.new.told.waiting otherwise
    denied_line c.tell.result (is_denied c.args.command.now says (sym c.allows.ensures ∙ c.if-not-allows.true)) c.tell.ensures

pub returns-then-not-is_change : goal.returns-then-not-is_change
returns-then-not-is_change c = λ line says.
    let new = c.pass-reply.new.self in
    let reply = reply_in new.control c.pass-reply.result in
    answered-line c.args.register.now new c.args.asker.rights c.args.asker.desk c.args.asker.sequence line c.args.told.now.waiting
    c.tell_look.new.told.waiting (passed c.args.command.now reply) (told_text reply) c.tell_look.result
    (looks c.args.command.now new reply says (sym c.allows.ensures ∙ c.if-not-allows.false) (sym c.is_change.ensures ∙ c.if-not-is_change.true)
    c.pass-reply.ensures.passes) c.tell_look.ensures
