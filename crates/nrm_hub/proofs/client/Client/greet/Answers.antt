-- A greeting.
use Rattle.std.proofs.Common.{ℕ, ◌≡◌, ◌∙◌, List, Some, ap, refl, subst, true, false}
use Rattle.std.specs.Prelude.{unwrap_or}
use Rattle.nrm_hub.specs.Clients.{ClientValue}
use Rattle.nrm_hub.specs.Inner.Taking.{Excuses}
use Rattle.nrm_hub.specs.Lines.{at_line}
use Rattle.nrm_hub.specs.Taking.{may_greet, name_by}
use Rattle.nrm_hub.specs.declared.asked.Asked.{Asked}
use Rattle.nrm_hub.specs.declared.asked.Asked.TheVariants as asked
use Rattle.nrm_hub.proofs.ClientLines.{greeted, not-greeted, without}
use Rattle.nrm_hub.proofs.client.Client.greet.Goals as goal

pub returns-then-not-may_greet : goal.returns-then-not-may_greet
returns-then-not-may_greet c =
    let may : may_greet c.args.self.now c.args.name.now ≡ false = cc in
    not-greeted c.args.register.now c.args.self.now c.excuse.new.self c.args.end c.args.name.now c.args.number c.requires.first c.requires.greeting may
    c.excuse.ensures

pub returns-in-Ok : goal.returns-in-Ok
returns-in-Ok c =
    let may : may_greet c.args.self.now c.args.name.now ≡ true = cc in
    let n = c.unwrap_or-number.result in
    let is : n ≡ unwrap_or c.args.number c.next_of.result = c.unwrap_or-number.ensures in
    let text : c.bytes.result.now ≡ at_line n = c.bytes.ensures ∙ c.line_of_greeting.ensures in
    let hears : Excuses c.seat.new.self c.excuse-in-Ok.new.self c.args.end (at_line n) =
    subst (λ (t : List ℕ). Excuses c.seat.new.self c.excuse-in-Ok.new.self c.args.end t) text c.excuse-in-Ok.ensures in
    greeted c.args.register.now c.join.new.self c.args.self.now c.excuse-in-Ok.new.self c.args.end c.args.name.now c.args.number c.in-Ok.desk n
    c.requires.first c.requires.greeting may c.in-Ok.ensures.joins (is ∙ ap (λ (next : ℕ). unwrap_or c.args.number next) c.next_of.ensures.next)
    (subst (λ (x : ClientValue). Excuses x c.excuse-in-Ok.new.self c.args.end (at_line n)) c.seat.ensures hears)

pub returns-in-Err : goal.returns-in-Err
returns-in-Err c =
    let may : may_greet c.args.self.now c.args.name.now ≡ true = cc in
    let named : name_by c.args.self.now (asked.Greeting c.args.name.now c.args.number) ≡ Some c.args.name.now = rw may refl in
    without c.args.spare c.args.register.now c.join.new.self c.args.self.now c.go_without.new.self c.args.end c.args.name.now c.in-Err.fault
    c.requires.first (ap (λ (a : Asked). name_by c.args.self.now a) c.requires.greeting ∙ named) c.in-Err.ensures.err c.in-Err.ensures.cause
    c.go_without.ensures
