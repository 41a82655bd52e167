-- The line of the seats joins what waits, or that the client may not ask.
use Rattle.std.proofs.Common.{◌≡◌, ◌∙◌, Bool, true, false, not, ap, refl}
use Rattle.nrm_model.specs.Network.{product_named}
use Rattle.nrm_control.specs.Standing.{ControlValue}
use Rattle.nrm_hub.specs.Lines.{asks, available_line, denied_line, may_not_ask, otherwise}
use Rattle.nrm_hub.proofs.LineAnswers.{answered-line, heard-as}
use Rattle.nrm_hub.proofs.line.answer_ask.Goals as goal

unless : (b : Bool) → not b ≡ true → b ≡ false
unless true is = cc
unless false is = refl

if-so : (b : Bool) → not b ≡ false → b ≡ true
if-so true is = refl
if-so false is = cc

pub returns-then-not-asker : goal.returns-then-not-asker
returns-then-not-asker c = λ line says.
    let r = c.args.register.now in
    answered-line r r c.args.asker.rights c.args.asker.desk c.args.asker.sequence line c.args.told.now.waiting c.tell.new.told.waiting otherwise
    denied_line c.tell.result (may_not_ask c.args.product.now says (unless c.args.asker.rights.look c.if-not-asker.true)) c.tell.ensures

pub returns : goal.returns
returns c = λ line says.
    let r = c.args.register.now in
    let name = c.args.product.now in
    let text = c.bytes.ensures ∙ c.line_of_available.ensures
    ∙ ap (λ (control : ControlValue). available_line control name (product_named control.net name)) c.controller.ensures in
    answered-line r r c.args.asker.rights c.args.asker.desk c.args.asker.sequence line c.args.told.now.waiting c.tell-2.new.told.waiting otherwise
    (available_line r.control name (product_named r.control.net name)) c.tell-2.result (asks name says (if-so c.args.asker.rights.look c.if-not-asker.false))
    (heard-as c.args.told.now.waiting c.tell-2.new.told.waiting (available_line r.control name (product_named r.control.net name))
    c.bytes.result.now c.tell-2.result text c.tell-2.ensures)
