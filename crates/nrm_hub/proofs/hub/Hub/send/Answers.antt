-- What waits is sent.
use Rattle.std.proofs.Common.{eqb-true, ◌≡◌, ◌<◌, ◌≤◌, ◌∙◌, List, [], ◌∷◌, None, Option, Some, get_or, length, subst, refl, sym, ap, arith}
use Rattle.std.specs.Prelude.{slice_set}
use Rattle.std.proofs.lemmas.Result.{on_err_weaker, on_ok_weaker}
use Rattle.nrm_frames.specs.Outgoing.{Output, send}
use Rattle.nrm_hub.specs.Goes.{Goes}
use Rattle.nrm_hub.specs.Hub.{HubValue, client_at}
use Rattle.nrm_hub.specs.Clients.{ClientValue, after_telling}
use Rattle.nrm_hub.specs.Inner.Seats.{WasSent}
use Rattle.std.proofs.lemmas.List.{get_or_past}
use Rattle.nrm_hub.specs.Seats.{IsHub}
use Rattle.nrm_hub.proofs.DuePlaces.{none-waits, sent-already, sent-as, sent-nobody, sent-now, set-sent}
use Rattle.nrm_hub.proofs.HubPlaces.{at-place, seated-set, unchanged}
use Rattle.nrm_hub.proofs.HubPuts.{puts-nothing, puts-one, puts-one-cut, puts-still}
use Rattle.nrm_hub.proofs.HubSteps.{goes-sent, same-clients}
use Rattle.nrm_hub.proofs.OfFields.{hub_of}
use Rattle.nrm_hub.proofs.Phases.{telling-unreplayed, telling-unsettled}
use Rattle.nrm_hub.proofs.hub.Hub.send.Goals as goal

pub returns-then-at-len-clause-puts : goal.returns-then-at-len-clause-puts
returns-then-at-len-clause-puts g c = puts-nothing c.args.self.now (g.K.Sink.held c.args.sink.now)

pub returns-in_default-clause-puts : goal.returns-in_default-clause-puts
returns-in_default-clause-puts g c =
    let old : HubValue = hub_of c.self.inside.register c.self.inside.clients.items c.self.inside.opened c.self.inside.phase in
    let within : c.args.place < length old.clients = omega (arith, c.self.inside.clients.ok.0) in
    let new : HubValue = record old { clients = slice_set old.clients c.args.place c.index_mut.result.now } in
    puts-still c.args.self.now new (g.K.Sink.held c.args.sink.now)
    (sym c.self.view_is ∙ same-clients old c.args.place c.index_mut.result.now c.index_mut.result.now within c.index_mut.ensures.value refl)

pub returns-then-is_empty-clause-puts : goal.returns-then-is_empty-clause-puts
returns-then-is_empty-clause-puts g c =
    let old : HubValue = hub_of c.self.inside.register c.self.inside.clients.items c.self.inside.opened c.self.inside.phase in
    let within : c.args.place < length old.clients = omega (arith, c.self.inside.clients.ok.0) in
    let new : HubValue = record old { clients = slice_set old.clients c.args.place (Some c.in-Some.client) } in
    puts-still c.args.self.now new (g.K.Sink.held c.args.sink.now)
    (sym c.self.view_is
    ∙ same-clients old c.args.place c.index_mut.result.now (Some c.in-Some.client) within c.index_mut.ensures.value c.in-Some.is)

pub returns-clause-puts : goal.returns-clause-puts
returns-clause-puts g c =
    let held = g.K.Sink.held in
    let old : HubValue = hub_of c.self.inside.register c.self.inside.clients.items c.self.inside.opened c.self.inside.phase in
    let within : c.args.place < length old.clients = omega (arith, c.self.inside.clients.ok.0) in
    let new : HubValue = record old { clients = slice_set old.clients c.args.place (Some c.was_told.new.self) } in
    let there : client_at old c.args.place ≡ Some c.in-Some.client =
    at-place old.clients c.args.place c.index_mut.result.now within c.index_mut.ensures.value ∙ c.in-Some.is in
    let goes : Goes c.args.self.now new [] (send c.args.place c.used-2.result c.told-2.result.now ∷ []) =
    goes-sent old c.args.self.now c.args.place c.used-2.result c.told-2.result.now c.in-Some.client c.in-Some.client c.was_told.new.self
    c.self.view_is there c.requires refl c.used-2.ensures c.told-2.ensures c.was_told.ensures in
    let output : Output = send c.args.place c.used-2.result c.told-2.result.now in
    on_ok_weaker c.put_send-put.result
    (λ whole. puts-one c.args.self.now new output (held c.args.sink.now) (held c.put_send-put.new.sink) goes whole)
    c.put_send-put.ensures.whole

pub returns-clause-cut : goal.returns-clause-cut
returns-clause-cut g c =
    let held = g.K.Sink.held in
    let old : HubValue = hub_of c.self.inside.register c.self.inside.clients.items c.self.inside.opened c.self.inside.phase in
    let within : c.args.place < length old.clients = omega (arith, c.self.inside.clients.ok.0) in
    let new : HubValue = record old { clients = slice_set old.clients c.args.place (Some c.was_told.new.self) } in
    let there : client_at old c.args.place ≡ Some c.in-Some.client =
    at-place old.clients c.args.place c.index_mut.result.now within c.index_mut.ensures.value ∙ c.in-Some.is in
    let goes : Goes c.args.self.now new [] (send c.args.place c.used-2.result c.told-2.result.now ∷ []) =
    goes-sent old c.args.self.now c.args.place c.used-2.result c.told-2.result.now c.in-Some.client c.in-Some.client c.was_told.new.self
    c.self.view_is there c.requires refl c.used-2.ensures c.told-2.ensures c.was_told.ensures in
    let output : Output = send c.args.place c.used-2.result c.told-2.result.now in
    on_err_weaker c.put_send-put.result
    (λ front. puts-one-cut c.args.self.now new output (held c.args.sink.now) (held c.put_send-put.new.sink) goes front)
    c.put_send-put.ensures.cut

pub invariant_of-self : goal.invariant_of-self
invariant_of-self g c =
    let clients = c.self.inside.clients.items in
    let within : c.args.place < length clients = omega (arith, c.self.inside.clients.ok.0) in
    subst (λ (cs : List (Option ClientValue)). IsHub c.self.inside.register cs c.self.inside.due c.self.inside.heard c.self.inside.phase)
    (sym (unchanged clients c.args.place c.index_mut.result.now within c.index_mut.ensures.value)) c.self.invariant

pub invariant_of-self-then-is_empty : goal.invariant_of-self-then-is_empty
invariant_of-self-then-is_empty g c =
    let clients = c.self.inside.clients.items in
    let within : c.args.place < length clients = omega (arith, c.self.inside.clients.ok.0) in
    subst (λ (cs : List (Option ClientValue)). IsHub c.self.inside.register cs c.self.inside.due c.self.inside.heard c.self.inside.phase)
    (sym (unchanged clients c.args.place (Some c.in-Some.client) within
    (sym c.in-Some.is ∙ c.index_mut.ensures.value ∙ ap (λ (x : Option ClientValue). get_or clients c.args.place x) c.in-Some.is))) c.self.invariant

pub invariant_of-self-2 : goal.invariant_of-self-2
invariant_of-self-2 g c =
    let clients = c.self.inside.clients.items in
    let desks = length c.self.inside.register.desks in
    let within : c.args.place < length clients = omega (arith, c.self.inside.clients.ok.0) in
    let there : get_or clients c.args.place None ≡ Some c.in-Some.client =
    at-place clients c.args.place c.index_mut.result.now within c.index_mut.ensures.value ∙ c.in-Some.is in
    let due = c.self.inside.due in
    let heard = c.self.inside.heard in
    subst (λ (x : ClientValue). IsHub c.self.inside.register (slice_set clients c.args.place (Some x)) due heard c.self.inside.phase)
    (sym c.was_told.ensures) (
      seated-set clients desks c.args.place c.in-Some.client (after_telling c.in-Some.client) there refl c.self.invariant.0,
      set-sent clients due heard c.args.place c.in-Some.client there c.self.invariant.1,
      λ e. absurd (telling-unreplayed c.self.inside.phase (ap (λ (h : HubValue). h.phase) c.self.view_is ∙ c.requires) e),
      λ e. absurd (telling-unsettled c.self.inside.phase (ap (λ (h : HubValue). h.phase) c.self.view_is ∙ c.requires) e),
    )

pub returns-then-at-len-clause-sent : goal.returns-then-at-len-clause-sent
returns-then-at-len-clause-sent g c =
    let clients = c.self.inside.clients.items in
    let past : length clients ≤ c.args.place = omega (arith, c.self.inside.clients.ok.0) in
    let is : clients ≡ c.args.self.now.clients = ap (λ (h : HubValue). h.clients) c.self.view_is in
    sent-as clients c.args.self.now.clients clients c.args.self.now.clients c.args.place is is
    (sent-nobody clients c.args.place (get_or_past clients c.args.place None past))

pub returns-in_default-clause-sent : goal.returns-in_default-clause-sent
returns-in_default-clause-sent g c =
    let clients = c.self.inside.clients.items in
    let within : c.args.place < length clients = omega (arith, c.self.inside.clients.ok.0) in
    let is : clients ≡ c.args.self.now.clients = ap (λ (h : HubValue). h.clients) c.self.view_is in
    sent-as clients c.args.self.now.clients clients (slice_set clients c.args.place c.index_mut.result.now) c.args.place is
    (sym (unchanged clients c.args.place c.index_mut.result.now within c.index_mut.ensures.value))
    (sent-nobody clients c.args.place (at-place clients c.args.place c.index_mut.result.now within c.index_mut.ensures.value ∙ c.in_default.is))

pub returns-then-is_empty-clause-sent : goal.returns-then-is_empty-clause-sent
returns-then-is_empty-clause-sent g c =
    let clients = c.self.inside.clients.items in
    let within : c.args.place < length clients = omega (arith, c.self.inside.clients.ok.0) in
    let is : clients ≡ c.args.self.now.clients = ap (λ (h : HubValue). h.clients) c.self.view_is in
    let there : get_or clients c.args.place None ≡ Some c.in-Some.client =
    at-place clients c.args.place c.index_mut.result.now within c.index_mut.ensures.value ∙ c.in-Some.is in
    sent-as clients c.args.self.now.clients clients (slice_set clients c.args.place (Some c.in-Some.client)) c.args.place is
    (sym (unchanged clients c.args.place (Some c.in-Some.client) within
    (sym c.in-Some.is ∙ c.index_mut.ensures.value ∙ ap (λ (x : Option ClientValue). get_or clients c.args.place x) c.in-Some.is)))
    (sent-already clients c.args.place c.in-Some.client there
    (sym c.told.ensures ∙ none-waits c.told.result.now (eqb-true (length c.told.result.now) 0 (sym c.is_empty.ensures ∙ c.if-is_empty.true)))
    (sym c.used.ensures ∙ c.if-used-eq0.true))

pub returns-clause-sent : goal.returns-clause-sent
returns-clause-sent g c =
    let clients = c.self.inside.clients.items in
    let within : c.args.place < length clients = omega (arith, c.self.inside.clients.ok.0) in
    let is : clients ≡ c.args.self.now.clients = ap (λ (h : HubValue). h.clients) c.self.view_is in
    let there : get_or clients c.args.place None ≡ Some c.in-Some.client =
    at-place clients c.args.place c.index_mut.result.now within c.index_mut.ensures.value ∙ c.in-Some.is in
    subst (λ (cs : List (Option ClientValue)). WasSent cs (slice_set clients c.args.place (Some c.was_told.new.self)) c.args.place) is
    (sent-now clients c.args.place c.in-Some.client c.was_told.new.self there (ap (λ (x : ClientValue). x.told) c.was_told.ensures)
    (ap (λ (x : ClientValue). x.used) c.was_told.ensures))
