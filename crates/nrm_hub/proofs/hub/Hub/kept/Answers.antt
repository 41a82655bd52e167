-- The word that all is kept came, and all are told.
use Rattle.std.proofs.Common.{◌≡◌, ◌∙◌, [], ◌∷◌, Some, ap, refl, subst, sym}
use Rattle.nrm_edge.proofs.Sent.{OnErr-holds}
use Rattle.nrm_frames.specs.declared.header.Header.TheVariants as header
use Rattle.nrm_hub.specs.Goes.{Goes}
use Rattle.nrm_hub.specs.Hub.{HubValue, client_at}
use Rattle.nrm_hub.specs.Waiting.{IsTold, OfEach}
use Rattle.nrm_hub.specs.World.{frame}
use Rattle.nrm_hub.specs.declared.phase.Phase.TheVariants as phase
use Rattle.nrm_hub.proofs.Going.{goes-kept, goes-same, goes-settled}
use Rattle.nrm_hub.proofs.HubPuts.{cut-behind, puts-behind, puts-on}
use Rattle.nrm_hub.proofs.OfFields.{hub_of}
use Rattle.nrm_hub.proofs.hub.Hub.kept.Goals as goal

pub returns-in_err-tell_all-clause-cut : goal.returns-in_err-tell_all-clause-cut
returns-in_err-tell_all-clause-cut g c =
    let held = g.K.Sink.held in
    let old : HubValue = hub_of c.self.inside.register c.self.inside.clients.items c.self.inside.opened c.self.inside.phase in
    let mid : HubValue = record old { phase = phase.Telling } in
    let goes : Goes c.args.self.now mid (frame header.Kept [] ∷ []) [] =
    goes-same old c.args.self.now mid mid _ _ c.self.view_is refl (goes-kept old (ap (λ (h : HubValue). h.phase) c.self.view_is ∙ c.requires)) in
    OnErr-holds c.from_residual.result
    (cut-behind c.args.self.now mid c.tell_all.new.self (held c.args.sink.now) (held c.tell_all.new.sink) goes c.in_err-tell_all.ensures.cut)

pub invariant_of-self-2 : goal.invariant_of-self-2
invariant_of-self-2 g c =
    let told : OfEach IsTold c.tell_all.new.self = c.in_ok-tell_all.ensures.told in (
      c.self-2.invariant.0,
      c.self-2.invariant.1,
      λ e. absurd (cc),
      λ e place d small there. told place d small (subst (λ (h : HubValue). client_at h place ≡ Some d) c.self-2.view_is there),
    )

pub returns-clause-puts : goal.returns-clause-puts
returns-clause-puts g c =
    let held = g.K.Sink.held in
    let old : HubValue = hub_of c.self.inside.register c.self.inside.clients.items c.self.inside.opened c.self.inside.phase in
    let mid : HubValue = record old { phase = phase.Telling } in
    let goes : Goes c.args.self.now mid (frame header.Kept [] ∷ []) [] =
    goes-same old c.args.self.now mid mid _ _ c.self.view_is refl (goes-kept old (ap (λ (h : HubValue). h.phase) c.self.view_is ∙ c.requires)) in
    let told : HubValue = hub_of c.self-2.inside.register c.self-2.inside.clients.items c.self-2.inside.opened c.self-2.inside.phase in
    let new : HubValue = record told { phase = phase.Settled } in
    let settles : Goes c.tell_all.new.self new [] [] =
    goes-same told c.tell_all.new.self new new [] [] c.self-2.view_is refl
    (goes-settled told (ap (λ (h : HubValue). h.phase) c.self-2.view_is ∙ c.tell_all.ensures.phase)
    (subst (λ (h : HubValue). OfEach IsTold h) (sym c.self-2.view_is) c.in_ok-tell_all.ensures.told)) in
    puts-on c.args.self.now c.tell_all.new.self new (frame header.Kept [] ∷ []) (held c.args.sink.now) (held c.tell_all.new.sink)
    (puts-behind c.args.self.now mid c.tell_all.new.self (held c.args.sink.now) (held c.tell_all.new.sink) goes c.in_ok-tell_all.ensures.puts) settles
