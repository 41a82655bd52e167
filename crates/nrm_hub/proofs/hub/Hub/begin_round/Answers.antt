-- Those whose turn comes are heard, but for those that wait for nothing.
use Rattle.std.proofs.Common.{List, Option, subst, sym}
use Rattle.nrm_hub.specs.Clients.{ClientValue}
use Rattle.nrm_hub.specs.Due.{AreDue, DueValue, nothing_due}
use Rattle.nrm_hub.specs.Inner.Seats.{AreListed}
use Rattle.nrm_hub.specs.Waiting.{IsAtRest}
use Rattle.nrm_hub.specs.Seats.{IsHub}
use Rattle.nrm_hub.proofs.DuePlaces.{begin-due, listed-rest}
use Rattle.nrm_hub.proofs.hub.Hub.begin_round.Goals as goal

pub invariant_of-self : goal.invariant_of-self
invariant_of-self c =
    let clients = c.self.inside.clients.items in
    let heard : DueValue = c.move_due.new.to in
    let due : AreDue clients nothing_due heard =
    begin-due clients c.self.inside.due c.self.inside.heard heard c.move_due.ensures.moved c.move_due.ensures.still c.self.invariant.1 in
    subst (λ (cs : List (Option ClientValue)). IsHub c.self.inside.register cs c.clear.new.self heard c.self.inside.phase)
    (sym c.move_due.ensures.same) (
      c.self.invariant.0,
      subst (λ (d : DueValue). AreDue clients d heard) (sym c.clear.ensures) due,
      c.self.invariant.2,
      c.self.invariant.3,
    )

pub returns-clause-listed : goal.returns-clause-listed
returns-clause-listed c =
    let clients = c.self.inside.clients.items in
    let heard : DueValue = c.move_due.new.to in
    let due : AreDue clients nothing_due heard =
    begin-due clients c.self.inside.due c.self.inside.heard heard c.move_due.ensures.moved c.move_due.ensures.still c.self.invariant.1 in
    subst (λ (cs : List (Option ClientValue)). AreListed IsAtRest cs c.copied.result) (sym c.move_due.ensures.same)
    (listed-rest clients heard c.copied.result c.copied.ensures due)
