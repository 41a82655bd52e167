-- A piece came from the client at the place, or from nobody.
use Rattle.std.proofs.Common.{◌≡◌, ◌∙◌, true, false, ap, length, refl, subst, sym}
use Rattle.nrm_hub.specs.Hub.{HubValue, after_closing, takes_frames}
use Rattle.nrm_hub.specs.Inner.Seats.{CameAt}
use Rattle.nrm_hub.specs.Seats.{IsHub}
use Rattle.nrm_hub.specs.declared.phase.Phase.{Phase}
use Rattle.nrm_hub.proofs.Going.{goes-same}
use Rattle.nrm_hub.proofs.HubInvariants.{replayed-after, told-came}
use Rattle.nrm_hub.proofs.HubPlaces.{came-seated}
use Rattle.nrm_hub.proofs.HubSteps.{goes-came}
use Rattle.nrm_hub.proofs.OfFields.{hub_of}
use Rattle.nrm_hub.proofs.hub.Hub.came.Goals as goal

frames-come : (h h' : HubValue) → h ≡ h' → takes_frames h'.phase ≡ true → takes_frames h.phase ≡ true
frames-come h h' is frames = ap (λ (x : HubValue). takes_frames x.phase) is ∙ frames

pub invariant_of-self : goal.invariant_of-self
invariant_of-self c =
    let old : HubValue = hub_of c.self.inside.register c.self.inside.clients.items c.self.inside.opened c.self.inside.phase in
    let clients = c.came_at-closes.new.clients.items in
    let frames : takes_frames old.phase ≡ true = frames-come old c.args.self.now c.self.view_is c.requires in
    let so : CameAt old.clients c.args.place c.args.piece.now clients true = subst (CameAt old.clients c.args.place c.args.piece.now clients) c.if-closes.true c.came_at-closes.ensures.came in
    subst (λ (p : Phase). IsHub old.register clients c.came_at-closes.new.due c.came_at-closes.new.heard p) (sym c.after_closing-self-inside.ensures) (
      came-seated old.clients clients (length old.register.desks) c.args.place c.args.piece.now so c.self.invariant.0,
      c.came_at-closes.ensures.due c.self.invariant.1,
      λ e. absurd (replayed-after true old.phase frames e),
      λ e. told-came old.clients clients c.args.place c.args.piece.now true old.phase so c.self.invariant.3 e,
    )

pub invariant_of-self-else-closes : goal.invariant_of-self-else-closes
invariant_of-self-else-closes c =
    let old : HubValue = hub_of c.self.inside.register c.self.inside.clients.items c.self.inside.opened c.self.inside.phase in
    let clients = c.came_at-closes.new.clients.items in
    let frames : takes_frames old.phase ≡ true = frames-come old c.args.self.now c.self.view_is c.requires in
    let so : CameAt old.clients c.args.place c.args.piece.now clients false = subst (CameAt old.clients c.args.place c.args.piece.now clients) c.if-closes.false c.came_at-closes.ensures.came in (
      came-seated old.clients clients (length old.register.desks) c.args.place c.args.piece.now so c.self.invariant.0,
      c.came_at-closes.ensures.due c.self.invariant.1,
      λ e. absurd (replayed-after false old.phase frames e),
      λ e. told-came old.clients clients c.args.place c.args.piece.now false old.phase so c.self.invariant.3 e,
    )

pub returns-then-closes-clause-goes : goal.returns-then-closes-clause-goes
returns-then-closes-clause-goes c =
    let old : HubValue = hub_of c.self.inside.register c.self.inside.clients.items c.self.inside.opened c.self.inside.phase in
    let clients = c.came_at-closes.new.clients.items in
    let frames : takes_frames old.phase ≡ true = frames-come old c.args.self.now c.self.view_is c.requires in
    let so : CameAt old.clients c.args.place c.args.piece.now clients true = subst (CameAt old.clients c.args.place c.args.piece.now clients) c.if-closes.true c.came_at-closes.ensures.came in
    let closed : HubValue = record old { clients = clients; phase = after_closing old.phase } in
    let new : HubValue = record old { clients = clients; phase = c.after_closing-self-inside.result } in
    goes-same old c.args.self.now closed new _ _ c.self.view_is
    (ap (λ (p : Phase). let h : HubValue = record old { clients = clients; phase = p } in h) (sym c.after_closing-self-inside.ensures))
    (goes-came old c.args.place c.args.piece.now clients true frames so)

pub returns-else-closes-clause-goes : goal.returns-else-closes-clause-goes
returns-else-closes-clause-goes c =
    let old : HubValue = hub_of c.self.inside.register c.self.inside.clients.items c.self.inside.opened c.self.inside.phase in
    let clients = c.came_at-closes.new.clients.items in
    let frames : takes_frames old.phase ≡ true = frames-come old c.args.self.now c.self.view_is c.requires in
    let so : CameAt old.clients c.args.place c.args.piece.now clients false = subst (CameAt old.clients c.args.place c.args.piece.now clients) c.if-closes.false c.came_at-closes.ensures.came in
    let new : HubValue = record old { clients = clients } in
    goes-same old c.args.self.now new new _ _ c.self.view_is refl (goes-came old c.args.place c.args.piece.now clients false frames so)
