-- A number beyond the last is refused, and a greeting that comes late is bad.
use Rattle.std.proofs.Common.{◌∙◌, refl}
use Rattle.nrm_hub.specs.Lines.{greets_late, is_beyond, otherwise}
use Rattle.nrm_hub.proofs.LineAnswers.{answered-line}
use Rattle.nrm_session.specs.Replies.{bad, text_of}
use Rattle.nrm_hub.proofs.line.answer_line.Goals as goal

pub returns-then-asker-gt-LAST_SEQUENCE : goal.returns-then-asker-gt-LAST_SEQUENCE
returns-then-asker-gt-LAST_SEQUENCE c = λ line is. (is_beyond c.if-asker-gt-LAST_SEQUENCE.true, refl, refl)

pub returns-in-Greeting : goal.returns-in-Greeting
returns-in-Greeting c = λ line is.
    let r = c.args.register.now in
    answered-line r r c.args.asker.rights c.args.asker.desk c.args.asker.sequence line c.args.told.now.waiting
    c.tell.new.told.waiting otherwise (text_of bad) c.tell.result
    (greets_late c.in-Greeting.name c.in-Greeting.number (is ∙ c.in-Greeting.is)) c.tell.ensures
