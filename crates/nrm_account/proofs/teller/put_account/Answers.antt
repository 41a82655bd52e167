use Rattle.std.proofs.Common.{List, ℕ, ◌≡◌, ◌∙◌, ◌++◌, true, codes, sym}
use Rattle.std.proofs.lemmas.Result.{on_err_weaker}
use Rattle.nrm_edge.proofs.Sent.{AppendsFront-after, AppendsFront-more, OnErr-holds}
use Rattle.nrm_session.specs.Answering.{reply_in}
use Rattle.nrm_session.specs.Replies.{text_of}
use Rattle.nrm_account.specs.Texts.{is_accounted}
use Rattle.nrm_account.proofs.teller.put_account.Goals as goal

pub returns-in_err-put_all-2-clause-cut : goal.returns-in_err-put_all-2-clause-cut
returns-in_err-put_all-2-clause-cut g c =
    let held = g.K.Sink.held in
    let told : List ℕ = text_of (reply_in c.args.controller.now c.args.reply) in
    let is : is_accounted (reply_in c.args.controller.now c.args.reply) ≡ true = sym (c.is_accounted.ensures c.args.controller.now) ∙ c.if-not-is_accounted.false in
    rw is
    (OnErr-holds c.from_residual-in_err-put_all-2.result
    (AppendsFront-after (held c.args.sink.now) (held c.put_all.new.sink) (held c.put_all-2.new.sink) c.args.front.now (codes "answer " ++ told) c.in_ok-put_all.ensures.whole
    (AppendsFront-more (held c.put_all.new.sink) (held c.put_all-2.new.sink) (codes "answer ") told c.in_err-put_all-2.ensures.cut)))

pub returns-clause-cut : goal.returns-clause-cut
returns-clause-cut g c =
    let held = g.K.Sink.held in
    let told : List ℕ = text_of (reply_in c.args.controller.now c.args.reply) in
    let is : is_accounted (reply_in c.args.controller.now c.args.reply) ≡ true = sym (c.is_accounted.ensures c.args.controller.now) ∙ c.if-not-is_accounted.false in
    rw is
    (on_err_weaker c.put_reply.result
    (λ front.
    AppendsFront-after (held c.args.sink.now) (held c.put_all.new.sink) (held c.put_reply.new.sink) c.args.front.now (codes "answer " ++ told) c.in_ok-put_all.ensures.whole
    (AppendsFront-after (held c.put_all.new.sink) (held c.put_all-2.new.sink) (held c.put_reply.new.sink) (codes "answer ") told c.in_ok-put_all-2.ensures.whole front))
    c.put_reply.ensures.cut)
