-- The client at a place is read, and written back.
use Rattle.std.proofs.Common.{◌∙◌, ◌<◌, get_or, List, Option, Some, length, sym, ap, subst, arith}
use Rattle.nrm_hub.specs.Clients.{ClientValue}
use Rattle.nrm_hub.specs.Due.{AreDue}
use Rattle.nrm_hub.specs.World.{TakesNothing}
use Rattle.nrm_hub.proofs.DuePlaces.{set-heard}
use Rattle.nrm_hub.proofs.HubPlaces.{closes-not, closes-now, closes-past, takes-nothing, unchanged}
use Rattle.nrm_hub.proofs.hub.close_at.Goals as goal

pub returns-then-at-len-clause-closes : goal.returns-then-at-len-clause-closes
returns-then-at-len-clause-closes c = closes-past c.args.clients.now.items c.args.place c.args.why (omega (arith, c.args.clients.now.ok.0))

pub returns-then-is_none-clause-closes : goal.returns-then-is_none-clause-closes
returns-then-is_none-clause-closes c =
    let clients = c.args.clients.now.items in
    let within : c.args.place < length clients = omega (arith, c.args.clients.now.ok.0) in
    closes-now clients c.args.place c.args.why c.index_mut.result.now c.in-Some.client c.list_closing.new.client c.closing.result within
    c.index_mut.ensures.value c.in-Some.is c.closing.ensures c.if-is_none.ensures (c.list_closing.ensures.client ∙ c.close.ensures)

pub returns-then-is_none-clause-due : goal.returns-then-is_none-clause-due
returns-then-is_none-clause-due c are =
    let clients = c.args.clients.now.items in
    let within : c.args.place < length clients = omega (arith, c.args.clients.now.ok.0) in
    set-heard clients c.args.due.now c.list_closing.new.due c.args.heard.now c.list_closing.new.heard c.args.place (Some c.list_closing.new.client) within
    c.list_closing.ensures.due c.list_closing.ensures.heard c.list_closing.ensures.listed are

pub returns-else-is_none-clause-closes : goal.returns-else-is_none-clause-closes
returns-else-is_none-clause-closes c =
    let clients = c.args.clients.now.items in
    let within : c.args.place < length clients = omega (arith, c.args.clients.now.ok.0) in
    closes-not clients c.args.place c.args.why (Some c.in-Some.client) within
    (sym c.in-Some.is ∙ c.index_mut.ensures.value ∙ ap (λ (x : Option ClientValue). get_or clients c.args.place x) c.in-Some.is)
    (takes-nothing c.in-Some.client c.closing.result c.closing.ensures c.if-is_none.ensures)

pub returns-else-is_none-clause-due : goal.returns-else-is_none-clause-due
returns-else-is_none-clause-due c are =
    let clients = c.args.clients.now.items in
    let within : c.args.place < length clients = omega (arith, c.args.clients.now.ok.0) in
    subst (λ (cs : List (Option ClientValue)). AreDue cs c.args.due.now c.args.heard.now)
    (sym (unchanged clients c.args.place (Some c.in-Some.client) within
    (sym c.in-Some.is ∙ c.index_mut.ensures.value ∙ ap (λ (x : Option ClientValue). get_or clients c.args.place x) c.in-Some.is))) are

pub returns-in_default-clause-closes : goal.returns-in_default-clause-closes
returns-in_default-clause-closes c =
    let clients = c.args.clients.now.items in
    let within : c.args.place < length clients = omega (arith, c.args.clients.now.ok.0) in
    closes-not clients c.args.place c.args.why c.index_mut.result.now within c.index_mut.ensures.value
    (subst TakesNothing (sym c.in_default.is) tt)

pub returns-in_default-clause-due : goal.returns-in_default-clause-due
returns-in_default-clause-due c are =
    let clients = c.args.clients.now.items in
    let within : c.args.place < length clients = omega (arith, c.args.clients.now.ok.0) in
    subst (λ (cs : List (Option ClientValue)). AreDue cs c.args.due.now c.args.heard.now)
    (sym (unchanged clients c.args.place c.index_mut.result.now within c.index_mut.ensures.value)) are
