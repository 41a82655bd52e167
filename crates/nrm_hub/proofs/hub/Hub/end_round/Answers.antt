-- Those that were told, and wait for something more, are due.
use Rattle.std.proofs.Common.{ℕ, ◌≡◌, ◌≤◌, List, None, Option, Some, get_or, subst, sym}
use Rattle.nrm_frames.specs.declared.limits.TheConstants.{LAST_PLACE}
use Rattle.nrm_hub.specs.Clients.{ClientValue}
use Rattle.nrm_hub.specs.Due.{AreDue, DueValue, nothing_due}
use Rattle.nrm_hub.specs.Hub.{HubValue, client_at}
use Rattle.nrm_hub.specs.Waiting.{IsTold}
use Rattle.nrm_hub.specs.Seats.{IsHub}
use Rattle.nrm_hub.proofs.DuePlaces.{end-due}
use Rattle.nrm_hub.proofs.hub.Hub.end_round.Goals as goal

pub invariant_of-self : goal.invariant_of-self
invariant_of-self c =
    let clients = c.self.inside.clients.items in
    let due : DueValue = c.move_due.new.to in
    let told : (place : ℕ) (d : ClientValue) → place ≤ LAST_PLACE → get_or clients place None ≡ Some d → IsTold d = λ place d short there.
    c.requires place d short (subst (λ (h : HubValue). client_at h place ≡ Some d) c.self.view_is there) in
    let ended : AreDue clients due nothing_due =
    end-due clients c.self.inside.due due c.self.inside.heard told c.move_due.ensures.moved c.move_due.ensures.still c.self.invariant.1 in
    subst (λ (cs : List (Option ClientValue)). IsHub c.self.inside.register cs due c.clear.new.self c.self.inside.phase)
    (sym c.move_due.ensures.same) (
      c.self.invariant.0,
      subst (λ (d : DueValue). AreDue clients due d) (sym c.clear.ensures) ended,
      c.self.invariant.2,
      c.self.invariant.3,
    )
