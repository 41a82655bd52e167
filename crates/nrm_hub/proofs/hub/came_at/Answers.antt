-- The client at a place is read, and written back.
use Rattle.std.proofs.Common.{◌≡◌, ◌<◌, ◌≤◌, ◌∙◌, Bool, List, None, Option, Some, length, get_or, sym, ap, subst, arith}
use Rattle.std.specs.Prelude.{is_some, slice_set}
use Rattle.std.proofs.lemmas.List.{get_or_past}
use Rattle.nrm_frames.specs.declared.why.Why.{Why}
use Rattle.nrm_hub.specs.Clients.{ClientValue}
use Rattle.nrm_hub.specs.Due.{AreDue}
use Rattle.nrm_hub.specs.Inner.Seats.{CameAt, came, passed_by}
use Rattle.nrm_hub.specs.World.{TakesNothing}
use Rattle.nrm_hub.proofs.DuePlaces.{set-came}
use Rattle.nrm_hub.proofs.HubPlaces.{at-place, none-of, past-not, takes-nothing, unchanged}
use Rattle.nrm_hub.proofs.hub.came_at.Goals as goal

pub returns-then-at-len-clause-came : goal.returns-then-at-len-clause-came
returns-then-at-len-clause-came c =
    let clients = c.args.clients.now.items in
    let past : length clients ≤ c.args.place = omega (arith, c.args.clients.now.ok.0) in
    passed_by (subst TakesNothing (sym (get_or_past clients c.args.place None past)) tt)

pub returns-then-is_none-clause-came : goal.returns-then-is_none-clause-came
returns-then-is_none-clause-came c =
    let clients = c.args.clients.now.items in
    let within : c.args.place < length clients = omega (arith, c.args.clients.now.ok.0) in
    let there : get_or clients c.args.place None ≡ Some c.in-Some.client =
    at-place clients c.args.place c.index_mut.result.now within c.index_mut.ensures.value ∙ c.in-Some.is in
    let one = came c.in-Some.client c.came.new.self there (sym c.closing.ensures ∙ none-of c.closing.result c.if-is_none.ensures) c.came.ensures in
    subst (λ (b : Bool). CameAt clients c.args.place c.args.piece.now (slice_set clients c.args.place (Some c.list_came.new.client)) b)
    (sym (c.is_some.ensures ∙ ap (λ (o : Option Why). is_some o) c.closing-then-is_none.ensures))
    (subst (λ (x : ClientValue). CameAt clients c.args.place c.args.piece.now (slice_set clients c.args.place (Some x)) (is_some x.closing))
    (sym c.list_came.ensures.client) one)

pub returns-then-is_none-clause-due : goal.returns-then-is_none-clause-due
returns-then-is_none-clause-due c are =
    let clients = c.args.clients.now.items in
    let within : c.args.place < length clients = omega (arith, c.args.clients.now.ok.0) in
    let there : get_or clients c.args.place None ≡ Some c.in-Some.client =
    at-place clients c.args.place c.index_mut.result.now within c.index_mut.ensures.value ∙ c.in-Some.is in
    subst (λ (x : ClientValue). AreDue (slice_set clients c.args.place (Some x)) c.list_came.new.due c.list_came.new.heard) (sym c.list_came.ensures.client)
    (set-came clients c.args.due.now c.list_came.new.due c.args.heard.now c.list_came.new.heard c.args.place c.in-Some.client c.came.new.self
    c.args.piece.now there c.came.ensures c.list_came.ensures.listed c.list_came.ensures.due c.list_came.ensures.heard are)

pub returns-else-is_none-clause-came : goal.returns-else-is_none-clause-came
returns-else-is_none-clause-came c =
    let clients = c.args.clients.now.items in
    let within : c.args.place < length clients = omega (arith, c.args.clients.now.ok.0) in
    past-not clients c.args.place c.args.piece.now (Some c.in-Some.client) within
    (sym c.in-Some.is ∙ c.index_mut.ensures.value ∙ ap (λ (x : Option ClientValue). get_or clients c.args.place x) c.in-Some.is)
    (takes-nothing c.in-Some.client c.closing.result c.closing.ensures c.if-is_none.ensures)

pub returns-else-is_none-clause-due : goal.returns-else-is_none-clause-due
returns-else-is_none-clause-due c are =
    let clients = c.args.clients.now.items in
    let within : c.args.place < length clients = omega (arith, c.args.clients.now.ok.0) in
    subst (λ (cs : List (Option ClientValue)). AreDue cs c.args.due.now c.args.heard.now)
    (sym (unchanged clients c.args.place (Some c.in-Some.client) within
    (sym c.in-Some.is ∙ c.index_mut.ensures.value ∙ ap (λ (x : Option ClientValue). get_or clients c.args.place x) c.in-Some.is))) are

pub returns-in_default-clause-came : goal.returns-in_default-clause-came
returns-in_default-clause-came c =
    let clients = c.args.clients.now.items in
    let within : c.args.place < length clients = omega (arith, c.args.clients.now.ok.0) in
    past-not clients c.args.place c.args.piece.now c.index_mut.result.now within c.index_mut.ensures.value
    (subst TakesNothing (sym c.in_default.is) tt)

pub returns-in_default-clause-due : goal.returns-in_default-clause-due
returns-in_default-clause-due c are =
    let clients = c.args.clients.now.items in
    let within : c.args.place < length clients = omega (arith, c.args.clients.now.ok.0) in
    subst (λ (cs : List (Option ClientValue)). AreDue cs c.args.due.now c.args.heard.now)
    (sym (unchanged clients c.args.place c.index_mut.result.now within c.index_mut.ensures.value)) are
