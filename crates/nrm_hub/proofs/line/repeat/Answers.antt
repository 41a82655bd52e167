-- The row under the number is told again where it is of the same line; else the client is to be closed.
use Rattle.std.proofs.Common.{◌∙◌, ap, refl, subst, sym}
use Rattle.nrm_control.specs.Standing.{ControlValue}
use Rattle.nrm_session.specs.Answering.{reply_in}
use Rattle.nrm_session.specs.Replies.{text_of}
use Rattle.nrm_frames.specs.declared.why.Why.{Why}
use Rattle.nrm_hub.specs.Lines.{Refuses, is_other, is_used, repeated, repeats}
use Rattle.nrm_hub.proofs.LineAnswers.{answered-line, heard-as}
use Rattle.nrm_hub.proofs.line.repeat.Goals as goal

pub returns-in-Some : goal.returns-in-Some
returns-in-Some c = λ line says.
    let r = c.args.register.now in
    let row = c.in-Some.row in
    let net = sym (c.network-net.ensures.network ∙ ap (λ (control : ControlValue). control.net) c.controller.ensures) in
    let text = c.bytes.ensures ∙ c.reply_line.ensures r.control net in
    answered-line r r c.args.asker.rights c.args.asker.desk c.args.asker.sequence line c.args.told.now.waiting c.tell.new.told.waiting
    (repeated row) (text_of (reply_in r.control row.reply)) c.tell.result
    (repeats c.args.command.now row says c.requires.allowed c.requires.changes c.requires.used (sym c.in-Some.ensures.row)
    (sym c.is_same.ensures ∙ c.if-is_same.true))
    (heard-as c.args.told.now.waiting c.tell.new.told.waiting (text_of (reply_in r.control row.reply)) c.bytes.result.now c.tell.result text
    c.tell.ensures)

pub returns-in-Some-2 : goal.returns-in-Some-2
returns-in-Some-2 c = λ line says. (
  is_other c.args.command.now c.in-Some.row says c.requires.allowed c.requires.changes c.requires.used (sym c.in-Some.ensures.row)
      (sym c.is_same.ensures ∙ c.if-is_same.false),
  refl,
  refl,
)

pub returns-in-None : goal.returns-in-None
returns-in-None c = λ line says. (
  subst (λ (reason : Why). Refuses c.args.register.now c.args.asker.rights c.args.asker.desk c.args.asker.sequence line reason) (sym c.reason_used.ensures)
      (is_used c.args.command.now says c.requires.allowed c.requires.changes c.requires.used (sym c.in-None.ensures.row)),
  refl,
  refl,
)
