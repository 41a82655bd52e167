-- One place after another.
use Rattle.std.proofs.Common.{ℕ, ◌≡◌, ◌∙◌, ◌⊎◌, List, Option, arith, refl, subst}
use Rattle.nrm_hub.specs.Clients.{ClientValue}
use Rattle.nrm_hub.specs.Due.{IsDue, due_count}
use Rattle.nrm_hub.specs.Inner.Seats.{IsQuietAt}
use Rattle.nrm_hub.proofs.DuePlaces.{StayDue, all-stay, none-stay, one-stays, still-same}
use Rattle.nrm_hub.proofs.listed.move_due.Goals as goal

pub loop-at-init : goal.loop-at-init
loop-at-init c = record { same = refl; still = still-same c.args.to.now; stay = none-stay c.args.clients.now.items c.args.from.now c.args.to.now }

pub loop-at-preserved : goal.loop-at-preserved
loop-at-preserved c =
    let l = c.loop-at in
    let place : ℕ = c.at.result in
    let listed : IsQuietAt c.args.clients.now.items place ⊎ IsDue c.list_at.new.due place =
    subst (λ (cs : List (Option ClientValue)). IsQuietAt cs place ⊎ IsDue c.list_at.new.due place) l.invariant.same c.list_at.ensures.listed in
    record {
      same = c.list_at.ensures.same ∙ l.invariant.same;
      still = λ p is. c.list_at.ensures.still p (l.invariant.still p is);
      stay = one-stays c.args.clients.now.items c.args.from.now l.to c.list_at.new.due l.at place c.at.ensures l.invariant.stay c.list_at.ensures.still
          listed;
    }

pub returns-clause-same : goal.returns-clause-same
returns-clause-same c = c.loop-at.invariant.same

pub returns-clause-moved : goal.returns-clause-moved
returns-clause-moved c =
    let l = c.loop-at in
    let all : l.at ≡ due_count c.args.from.now = omega (arith, l.auto.at-end, c.loop-at-test.false, c.count-at-end.ensures) in
    all-stay c.args.clients.now.items c.args.from.now l.to
    (subst (λ (n : ℕ). StayDue c.args.clients.now.items c.args.from.now l.to n) all l.invariant.stay)

pub returns-clause-still : goal.returns-clause-still
returns-clause-still c = c.loop-at.invariant.still
