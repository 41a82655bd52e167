use Rattle.std.proofs.Common.{◌∙◌, ◌++◌, [], true, inl, inr, refl}
use Rattle.std.proofs.KnownBytes.{Appends-nil}
use Rattle.nrm_session.specs.Answering.{reply_in}
use Rattle.nrm_session.specs.Replies.{Reply}
use Rattle.nrm_account.specs.Texts.{answer_text}
use Rattle.nrm_account.proofs.Told.{answers-told, asked-now, asked-not, put-cut, put-whole, told-account}
use Rattle.nrm_account.proofs.teller.TellingClerkTeller.answer.Goals as goal

pub returns-then-beside-ne1-clause-whole : goal.returns-then-beside-ne1-clause-whole
returns-then-beside-ne1-clause-whole g c =
    let held = g.K.Sink.held c.args.sink.now in
    let new = c.pass_line.new.controller in
    answers-told (c.args.controller.now, c.args.beside.now) (new, c.pass_line.new.teller) c.args.command.now (reply_in new c.pass_line.result) c.args.beside.now.ran_out c.pass_line.ensures.passes
    [] held held (g.K.Sink.faults c.args.sink.now) (g.K.Sink.faults c.args.sink.now) c.requires.ready (λ s stands. inl (asked-not c.args.beside.now.left _ c.if-beside-ne1.true, refl)) (Appends-nil held) refl

pub returns-in-Ok-clause-whole : goal.returns-in-Ok-clause-whole
returns-in-Ok-clause-whole g c =
    let control = c.args.controller.now in
    let teller = c.args.beside.now in
    let new = c.pass_line-reply.new.controller in
    let reply : Reply = reply_in new c.pass_line-reply.result in
    let front = c.deref.ensures.value ∙ c.in-Ok.ensures in
    put-whole (control, teller) (new, c.pass_line-reply.new.teller) c.args.command.now reply teller.ran_out c.pass_line-reply.ensures.passes
    c.put_account.result (c.deref.result.now ++ answer_text reply) (g.K.Sink.held c.args.sink.now) (g.K.Sink.held c.put_account.new.sink)
    (g.K.Sink.faults c.args.sink.now) (g.K.Sink.faults c.put_account.new.sink) c.requires.ready
    (λ s stands. inl (asked-now teller.left c.if-beside-ne1.false (told-account control teller.asked teller.planned c.args.command.now reply c.deref.result.now s stands front), refl))
    c.put_account.ensures.whole c.put_account.ensures.cause

pub returns-in-Ok-clause-cut : goal.returns-in-Ok-clause-cut
returns-in-Ok-clause-cut g c =
    let control = c.args.controller.now in
    let teller = c.args.beside.now in
    let new = c.pass_line-reply.new.controller in
    let reply : Reply = reply_in new c.pass_line-reply.result in
    let front = c.deref.ensures.value ∙ c.in-Ok.ensures in
    put-cut (control, teller) (new, c.pass_line-reply.new.teller) c.args.command.now reply teller.ran_out c.pass_line-reply.ensures.passes
    c.put_account.result (c.deref.result.now ++ answer_text reply) (g.K.Sink.held c.args.sink.now) (g.K.Sink.held c.put_account.new.sink)
    (g.K.Sink.faults c.args.sink.now) (g.K.Sink.faults c.put_account.new.sink) c.requires.ready
    (λ s stands. inl (asked-now teller.left c.if-beside-ne1.false (told-account control teller.asked teller.planned c.args.command.now reply c.deref.result.now s stands front), refl))
    c.put_account.ensures.cut c.put_account.ensures.cause

pub returns-in-Err-clause-whole : goal.returns-in-Err-clause-whole
returns-in-Err-clause-whole g c =
    let held = g.K.Sink.held c.args.sink.now in
    let new = c.pass_line-in-Err.new.controller in
    answers-told (c.args.controller.now, c.args.beside.now) (new, c.pass_line-in-Err.new.teller) c.args.command.now (reply_in new c.pass_line-in-Err.result) true c.pass_line-in-Err.ensures.passes
    [] held held (g.K.Sink.faults c.args.sink.now) (g.K.Sink.faults c.args.sink.now) c.requires.ready (λ s stands. inr ((c.if-beside-ne1.false, refl), refl)) (Appends-nil held) refl
