-- The line is answered, and what became of it is entered.
use Rattle.std.proofs.Common.{ℕ, ◌≡◌, ◌∙◌, ◌<◌, List, Some, ap, arith, drop, take, subst, sym}
use Rattle.nrm_frames.specs.declared.why.Why.TheVariants as why
use Rattle.nrm_hub.specs.Asked.{asked_in}
use Rattle.nrm_hub.specs.Clients.{ClientValue, closed_for}
use Rattle.nrm_hub.specs.Inner.Answered.{IsAnswered}
use Rattle.nrm_hub.specs.Inner.Taking.{TakesIts}
use Rattle.nrm_hub.specs.declared.limits.TheConstants.{LAST_SEQUENCE}
use Rattle.nrm_hub.proofs.ClientLines.{answered-line, used-up}
use Rattle.nrm_hub.proofs.client.Client.answer.Goals as goal

pub returns-then-self-gt-LAST_SEQUENCE : goal.returns-then-self-gt-LAST_SEQUENCE
returns-then-self-gt-LAST_SEQUENCE c spare =
    let beyond : LAST_SEQUENCE < c.args.self.now.number = omega (arith, c.if-self-gt-LAST_SEQUENCE.true, ap (λ (x : ClientValue). x.number) c.self.view_is) in
    used-up c.args.register.now c.args.self.now c.close.new.self c.args.desk c.args.end c.requires.desk beyond
    (c.close.ensures ∙ ap (λ (x : ClientValue). closed_for x why.Sequence) c.use_line.ensures)

pub returns : goal.returns
returns c spare =
    let was : ClientValue = record {
      serial = c.self.inside.serial;
      name = c.self.inside.name;
      rights = c.self.inside.rights;
      desk = c.self.inside.desk;
      number = c.self.inside.number;
      coming = drop c.self.inside.start c.self.inside.bytes.items;
      told = c.self.inside.told.waiting;
      used = c.self.inside.used;
      closing = c.self.inside.closing;
    } in
    let r = c.args.register.now in
    let r' = c.answer_line-taken.new.register in
    let end : ℕ = c.args.end in
    let result = c.answer_line-taken.result in
    let told : List ℕ = c.answer_line-taken.new.told.waiting in
    let asks : asked_in (take end was.coming) ≡ c.args.asked.now =
    ap (λ (x : ClientValue). asked_in (take end x.coming)) c.self.view_is ∙ c.requires.asked in
    let given : IsAnswered r r' was.rights c.args.desk was.number (take end was.coming) was.told told result =
    c.answer_line-taken.ensures (take end was.coming) asks in
    let is : was.desk ≡ Some c.args.desk = ap (λ (x : ClientValue). x.desk) c.self.view_is ∙ c.requires.desk in
    subst (λ (x : ClientValue). TakesIts spare r r' x c.enter.new.self end) c.self.view_is
    (subst (λ (x : ClientValue). TakesIts spare r r' was x end) (sym c.enter.ensures) (answered-line r r' was c.args.desk end told result is given))
