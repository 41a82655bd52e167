-- The line of the reply joins what waits.
use Rattle.std.proofs.Common.{◌∙◌, ap, subst, sym}
use Rattle.nrm_model.specs.Network.{NetworkValue}
use Rattle.nrm_control.specs.Standing.{ControlValue}
use Rattle.nrm_session.specs.Answering.{IsTellable, reply_in}
use Rattle.nrm_session.specs.Replies.{text_of}
use Rattle.nrm_hub.proofs.LineAnswers.{heard-as}
use Rattle.nrm_hub.proofs.line.tell_carried.Goals as goal

pub reply_line-requires : goal.reply_line-requires
reply_line-requires c =
    let net = sym (c.network-net.ensures.network ∙ ap (λ (control : ControlValue). control.net) c.controller.ensures) in
    record {
      tellable = subst (λ (n : NetworkValue). IsTellable n c.args.reply) net c.requires.tellable;
      of_row = c.requires.of_row c.in_default.not-Memory;
    }

pub returns-in_default : goal.returns-in_default
returns-in_default c =
    let control = c.args.register.now.control in
    let net = sym (c.network-net.ensures.network ∙ ap (λ (k : ControlValue). k.net) c.controller.ensures) in
    heard-as c.args.told.now.waiting c.tell-in_default.new.told.waiting (text_of (reply_in control c.args.reply)) c.bytes.result.now c.tell-in_default.result
    (c.bytes.ensures ∙ c.reply_line.ensures control net) c.tell-in_default.ensures
