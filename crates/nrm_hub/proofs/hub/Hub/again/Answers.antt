-- Rows are given again.
use Rattle.std.proofs.Common.{ℕ, ◌∙◌, [], ◌∷◌, List, ap, length, refl}
use Rattle.nrm_frames.specs.declared.header.Header.TheVariants as header
use Rattle.nrm_hub.specs.Hub.{HubValue}
use Rattle.nrm_hub.specs.Inner.Rows.{RowsAgain}
use Rattle.nrm_hub.specs.World.{frame}
use Rattle.nrm_hub.proofs.Going.{goes-again, goes-same}
use Rattle.nrm_hub.proofs.OfFields.{hub_of}
use Rattle.nrm_hub.proofs.hub.Hub.again.Goals as goal

pub returns-in-Ok-clause-goes : goal.returns-in-Ok-clause-goes
returns-in-Ok-clause-goes c =
    let old : HubValue = hub_of c.self.inside.register c.self.inside.clients.items c.self.inside.opened c.self.inside.phase in
    let payload : List ℕ = c.args.payload.now in
    let new : HubValue = record old { register = c.give_again.new.register } in
    let again : RowsAgain old.register new.register payload = c.in-Ok.ensures.again in
    goes-same old c.args.self.now new new (frame (header.Again (length payload)) payload ∷ []) [] c.self.view_is refl
    (goes-again old payload again.rows new.register (ap (λ (h : HubValue). h.phase) c.self.view_is ∙ c.requires.replaying) c.requires.some
    again.payload_is again.again)
