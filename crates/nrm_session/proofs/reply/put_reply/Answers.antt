-- What was put is the text of the reply, or a front of it.
use Rattle.std.proofs.Common.{List, ℕ, ◌≡◌, ◌∙◌, ap, sym, subst}
use Rattle.std.specs.Prelude.{OnOk, OnErr}
use Rattle.std.specs.Io.KnownBytes.{Appends}
use Rattle.nrm_edge.specs.Pieces.{AppendsFront}
use Rattle.nrm_report.specs.Texts.{leg_text}
use Rattle.nrm_session.specs.Answering.{reply_in}
use Rattle.nrm_session.specs.Replies.{text_of}
use Rattle.nrm_session.specs.declared.reply.Reply.{Reply}
use Rattle.nrm_session.proofs.reply.put_reply.Goals as goal

pub returns-in-Leg-clause-whole : goal.returns-in-Leg-clause-whole
returns-in-Leg-clause-whole g c =
    let control = c.args.controller.now in
    let leg = c.in-Leg.leg in
    let told : leg_text c.network-net.result.now c.book.result.now.bookings leg ≡ leg_text control.net control.bookings leg =
    λ k. leg_text (c.network-net.ensures.network k) ((c.book.ensures.book k).bookings) leg in
    let text = told ∙ sym (ap (λ (reply : Reply). text_of (reply_in control reply)) c.in-Leg.is) in
    subst (λ (t : List ℕ). OnOk c.leg_text.result (Appends (g.K.Sink.held c.args.sink.now) (g.K.Sink.held c.leg_text.new.sink) t)) text
    c.leg_text.ensures.whole

pub returns-in-Leg-clause-cut : goal.returns-in-Leg-clause-cut
returns-in-Leg-clause-cut g c =
    let control = c.args.controller.now in
    let leg = c.in-Leg.leg in
    let told : leg_text c.network-net.result.now c.book.result.now.bookings leg ≡ leg_text control.net control.bookings leg =
    λ k. leg_text (c.network-net.ensures.network k) ((c.book.ensures.book k).bookings) leg in
    let text = told ∙ sym (ap (λ (reply : Reply). text_of (reply_in control reply)) c.in-Leg.is) in
    subst (λ (t : List ℕ). OnErr c.leg_text.result (AppendsFront (g.K.Sink.held c.args.sink.now) (g.K.Sink.held c.leg_text.new.sink) t))
    text c.leg_text.ensures.cut

pub returns-in-OptimisedNone-clause-cut : goal.returns-in-OptimisedNone-clause-cut
returns-in-OptimisedNone-clause-cut g c =
    let text = sym (ap (λ (reply : Reply). text_of (reply_in c.args.controller.now reply)) c.in-OptimisedNone.is) in
    subst (λ (t : List ℕ). OnErr c.put_all-in-OptimisedNone.result (AppendsFront (g.K.Sink.held c.args.sink.now)
    (g.K.Sink.held c.put_all-in-OptimisedNone.new.sink) t)) text c.put_all-in-OptimisedNone.ensures.cut
