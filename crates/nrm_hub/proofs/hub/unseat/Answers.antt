-- The client at a place is read, and written back.
use Rattle.std.proofs.Common.{ℕ, ◌≡◌, ◌≤◌, ◌∙◌, List, Option, Some, get_or, sym, ap, subst, arith}
use Rattle.nrm_frames.specs.declared.limits.TheConstants.{LAST_PLACE}
use Rattle.nrm_hub.specs.Clients.{ClientValue}
use Rattle.nrm_hub.specs.Due.{AreDue, IsDue}
use Rattle.nrm_hub.proofs.DuePlaces.{set-closed}
use Rattle.nrm_hub.proofs.HubPlaces.{unchanged}
use Rattle.nrm_hub.proofs.hub.unseat.Goals as goal

pub returns-then-eq-clause-due : goal.returns-then-eq-clause-due
returns-then-eq-clause-due c due are =
    let here : c.args.place ≤ LAST_PLACE → IsDue c.list.new.due c.args.place = λ small.
    let same : c.min.result ≡ c.args.place = omega (arith, small, c.min.ensures) in
    subst (λ (p : ℕ). IsDue c.list.new.due p) same c.list.ensures.due
    in
    set-closed c.args.clients.now.items due c.args.heard.now c.list.new.due c.args.place (Some c.list.new.client) c.requires c.list.ensures.still here are

pub returns-else-eq-clause-due : goal.returns-else-eq-clause-due
returns-else-eq-clause-due c due are =
    let clients = c.args.clients.now.items in
    subst (λ (cs : List (Option ClientValue)). AreDue cs due c.args.heard.now)
    (sym (unchanged clients c.args.place (Some c.in-Some.client) c.requires
    (sym c.in-Some.is ∙ c.index_mut.ensures.value ∙ ap (λ (x : Option ClientValue). get_or clients c.args.place x) c.in-Some.is))) are

pub returns-else-is_none-clause-due : goal.returns-else-is_none-clause-due
returns-else-is_none-clause-due c due are =
    let clients = c.args.clients.now.items in
    subst (λ (cs : List (Option ClientValue)). AreDue cs due c.args.heard.now)
    (sym (unchanged clients c.args.place (Some c.in-Some.client) c.requires
    (sym c.in-Some.is ∙ c.index_mut.ensures.value ∙ ap (λ (x : Option ClientValue). get_or clients c.args.place x) c.in-Some.is))) are

pub returns-in_default-clause-due : goal.returns-in_default-clause-due
returns-in_default-clause-due c due are =
    subst (λ (cs : List (Option ClientValue)). AreDue cs due c.args.heard.now)
    (sym (unchanged c.args.clients.now.items c.args.place c.index_mut.result.now c.requires c.index_mut.ensures.value)) are
