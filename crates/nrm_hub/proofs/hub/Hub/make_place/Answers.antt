-- Places were added.
use Rattle.std.proofs.Common.{◌∙◌, ap, length, refl}
use Rattle.nrm_hub.specs.Hub.{HubValue, takes_frames}
use Rattle.nrm_hub.proofs.DuePlaces.{places-due}
use Rattle.nrm_hub.proofs.Going.{goes-same}
use Rattle.nrm_hub.proofs.HubInvariants.{told-more}
use Rattle.nrm_hub.proofs.HubPlaces.{places-seated}
use Rattle.nrm_hub.proofs.HubSteps.{goes-made}
use Rattle.nrm_hub.proofs.Phases.{frames-replayed}
use Rattle.nrm_hub.proofs.OfFields.{hub_of}
use Rattle.nrm_hub.proofs.hub.Hub.make_place.Goals as goal

pub invariant_of-self : goal.invariant_of-self
invariant_of-self c = (
  places-seated c.self.inside.clients.items c.make_places.new.clients.items (length c.self.inside.register.desks) c.make_places.ensures.made
      c.self.invariant.0,
  places-due c.self.inside.clients.items c.make_places.new.clients.items c.self.inside.due c.self.inside.heard c.make_places.ensures.made
      c.self.invariant.1,
  λ e. absurd (frames-replayed c.self.inside.phase (ap (λ (h : HubValue). takes_frames h.phase) c.self.view_is ∙ c.requires) e),
  λ e. told-more c.self.inside.clients.items c.make_places.new.clients.items c.make_places.ensures.made (c.self.invariant.3 e),
)

pub returns-clause-goes : goal.returns-clause-goes
returns-clause-goes c =
    let old : HubValue = hub_of c.self.inside.register c.self.inside.clients.items c.self.inside.opened c.self.inside.phase in
    let new : HubValue = record old { clients = c.make_places.new.clients.items } in
    goes-same old c.args.self.now new new _ _ c.self.view_is refl (goes-made old new.clients (ap (λ (h : HubValue). takes_frames h.phase) c.self.view_is ∙ c.requires) c.make_places.ensures.made)
