-- The last frame came.
use Rattle.std.proofs.Common.{◌≢◌, refl, subst, sym}
use Rattle.nrm_hub.specs.Hub.{HubValue}
use Rattle.nrm_hub.specs.declared.phase.Phase.TheVariants as phase
use Rattle.nrm_hub.proofs.Going.{goes-ended, goes-same}
use Rattle.nrm_hub.proofs.OfFields.{hub_of}
use Rattle.nrm_hub.proofs.hub.Hub.ended.Goals as goal

pub invariant_of-self : goal.invariant_of-self
invariant_of-self c = (c.self.invariant.0, c.self.invariant.1, λ e. absurd (cc), λ e. absurd (cc))

pub returns-clause-goes : goal.returns-clause-goes
returns-clause-goes c =
    let old : HubValue = hub_of c.self.inside.register c.self.inside.clients.items c.self.inside.opened c.self.inside.phase in
    let new : HubValue = record old { phase = phase.Ended } in
    goes-same old c.args.self.now new new _ _ c.self.view_is refl
    (goes-ended old (subst (λ (h : HubValue). h.phase ≢ phase.Telling) (sym c.self.view_is) c.requires))
