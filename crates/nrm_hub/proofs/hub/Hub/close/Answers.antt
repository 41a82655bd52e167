-- The client is closed, if it is to be.
use Rattle.std.proofs.Common.{◌≡◌, ◌<◌, ◌∙◌, List, [], ◌∷◌, None, Option, ap, length, subst, sym}
use Rattle.std.specs.Prelude.{slice_set}
use Rattle.std.proofs.lemmas.Result.{on_err_weaker, on_ok_weaker}
use Rattle.nrm_frames.specs.Outgoing.{Output, close}
use Rattle.nrm_hub.specs.Goes.{Goes}
use Rattle.nrm_hub.specs.Clients.{ClientValue}
use Rattle.nrm_hub.specs.Hub.{HubValue, client_at}
use Rattle.nrm_hub.specs.Inner.Seats.{WasClosed}
use Rattle.nrm_hub.specs.Seats.{IsSeated}
use Rattle.std.proofs.lemmas.List.Elements.{All-set}
use Rattle.nrm_hub.proofs.DuePlaces.{closed-nobody, closed-now, closed-stays, set-nobody}
use Rattle.nrm_hub.proofs.HubPlaces.{place-within}
use Rattle.nrm_hub.proofs.HubPuts.{puts-nothing, puts-one, puts-one-cut}
use Rattle.nrm_hub.proofs.HubSteps.{goes-shut}
use Rattle.nrm_hub.proofs.OfFields.{hub_of}
use Rattle.nrm_hub.proofs.Phases.{telling-unreplayed, telling-unsettled}
use Rattle.nrm_hub.proofs.hub.Hub.close.Goals as goal

pub returns-in_default-clause-puts : goal.returns-in_default-clause-puts
returns-in_default-clause-puts g c = puts-nothing c.args.self.now (g.K.Sink.held c.args.sink.now)

pub returns-in_default-closing-clause-puts : goal.returns-in_default-closing-clause-puts
returns-in_default-closing-clause-puts g c = puts-nothing c.args.self.now (g.K.Sink.held c.args.sink.now)

pub returns-clause-puts : goal.returns-clause-puts
returns-clause-puts g c =
    let held = g.K.Sink.held in
    let old : HubValue = hub_of c.self.inside.register c.self.inside.clients.items c.self.inside.opened c.self.inside.phase in
    let new : HubValue = record old { clients = slice_set old.clients c.args.place None } in
    let output : Output = close c.args.place c.in-Some-closing.why in
    let goes : Goes c.args.self.now new [] (output ∷ []) =
    goes-shut old c.args.self.now c.args.place c.in-Some.client.now c.closing.result c.in-Some-closing.why c.self.view_is c.in-Some.ensures
    c.closing.ensures c.in-Some-closing.is c.requires.told c.requires.telling in
    on_ok_weaker c.put_close.result
    (λ whole. puts-one c.args.self.now new output (held c.args.sink.now) (held c.put_close.new.sink) goes whole) c.put_close.ensures.whole

pub returns-clause-cut : goal.returns-clause-cut
returns-clause-cut g c =
    let held = g.K.Sink.held in
    let old : HubValue = hub_of c.self.inside.register c.self.inside.clients.items c.self.inside.opened c.self.inside.phase in
    let new : HubValue = record old { clients = slice_set old.clients c.args.place None } in
    let output : Output = close c.args.place c.in-Some-closing.why in
    let goes : Goes c.args.self.now new [] (output ∷ []) =
    goes-shut old c.args.self.now c.args.place c.in-Some.client.now c.closing.result c.in-Some-closing.why c.self.view_is c.in-Some.ensures
    c.closing.ensures c.in-Some-closing.is c.requires.told c.requires.telling in
    on_err_weaker c.put_close.result
    (λ front. puts-one-cut c.args.self.now new output (held c.args.sink.now) (held c.put_close.new.sink) goes front) c.put_close.ensures.cut

pub invariant_of-self : goal.invariant_of-self
invariant_of-self g c =
    let clients = c.self.inside.clients.items in
    let within : c.args.place < length clients = place-within clients c.args.place c.in-Some.client.now
    (ap (λ (h : HubValue). client_at h c.args.place) c.self.view_is ∙ c.in-Some.ensures) in (
      All-set (IsSeated (length c.self.inside.register.desks)) clients c.args.place None tt c.self.invariant.0,
      set-nobody clients c.self.inside.due c.self.inside.heard c.args.place within c.self.invariant.1,
      λ e. absurd (telling-unreplayed c.self.inside.phase (ap (λ (h : HubValue). h.phase) c.self.view_is ∙ c.requires.telling) e),
      λ e. absurd (telling-unsettled c.self.inside.phase (ap (λ (h : HubValue). h.phase) c.self.view_is ∙ c.requires.telling) e),
    )

pub returns-in_default-clause-closed : goal.returns-in_default-clause-closed
returns-in_default-clause-closed g c = closed-nobody c.args.self.now.clients c.args.place c.in_default.ensures

pub returns-in_default-closing-clause-closed : goal.returns-in_default-closing-clause-closed
returns-in_default-closing-clause-closed g c =
    closed-stays c.args.self.now.clients c.args.place c.in-Some.client.now c.in-Some.ensures (sym c.closing.ensures ∙ c.in_default-closing.is)

pub returns-clause-closed : goal.returns-clause-closed
returns-clause-closed g c =
    let clients = c.self.inside.clients.items in
    let is : clients ≡ c.args.self.now.clients = ap (λ (h : HubValue). h.clients) c.self.view_is in
    let within : c.args.place < length clients = place-within clients c.args.place c.in-Some.client.now
    (ap (λ (h : HubValue). client_at h c.args.place) c.self.view_is ∙ c.in-Some.ensures) in
    subst (λ (cs : List (Option ClientValue)). WasClosed cs (slice_set clients c.args.place None) c.args.place) is
    (closed-now clients c.args.place within)
