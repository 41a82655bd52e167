-- It becomes a desk by its own name, and then the line is answered.
use Rattle.std.proofs.Common.{ℕ, ◌≡◌, ◌∙◌, Some, ap, subst, sym, take}
use Rattle.nrm_hub.specs.Clients.{ClientValue, joined_as}
use Rattle.nrm_hub.specs.Asked.{asked_in}
use Rattle.nrm_hub.specs.Inner.Answered.{IsJoinFault}
use Rattle.nrm_hub.specs.Inner.Taking.{TakesIts, joined, taken}
use Rattle.nrm_hub.specs.Taking.{name_by}
use Rattle.nrm_hub.specs.World.{IsNoGreeting}
use Rattle.nrm_hub.specs.declared.asked.Asked.{Asked}
use Rattle.nrm_hub.specs.Register.{Joins, desk_at}
use Rattle.nrm_hub.proofs.ClientLines.{own-name, without}
use Rattle.nrm_hub.proofs.client.Client.begin.Goals as goal

pub returns-in-Err : goal.returns-in-Err
returns-in-Err c =
    let name : name_by c.args.self.now (asked_in (take c.args.end c.args.self.now.coming)) ≡ Some c.args.self.now.name =
    ap (λ (a : Asked). name_by c.args.self.now a) c.requires.asked ∙ own-name c.args.self.now c.args.asked.now c.requires.own in
    taken (without c.args.spare c.args.register.now c.join.new.self c.args.self.now c.go_without.new.self c.args.end c.args.self.now.name
    c.in-Err.fault c.requires.first name c.in-Err.ensures.err
    (subst (λ (x : ClientValue). IsJoinFault x.name c.args.spare c.args.register.now c.in-Err.fault) c.self.view_is c.in-Err.ensures.cause)
    c.go_without.ensures)

pub returns-in-Ok : goal.returns-in-Ok
returns-in-Ok c =
    let mid = c.join.new.self in
    let d : ℕ = c.in-Ok.desk in
    let joins : Joins c.args.spare c.args.register.now c.args.self.now.name mid d =
    subst (λ (x : ClientValue). Joins c.args.spare c.args.register.now x.name mid d) c.self.view_is c.in-Ok.ensures.joins in
    let seat : c.seat.new.self ≡ joined_as c.args.self.now d (desk_at mid d).next =
    c.seat.ensures ∙ ap (λ (n : ℕ). joined_as c.args.self.now d n) c.next_of-number.ensures.next in
    joined mid d c.requires.first (subst IsNoGreeting (sym c.requires.asked) c.requires.own) joins
    (subst (λ (x : ClientValue). TakesIts c.args.spare mid c.answer.new.register x c.answer.new.self c.args.end) seat (c.answer.ensures c.args.spare))
