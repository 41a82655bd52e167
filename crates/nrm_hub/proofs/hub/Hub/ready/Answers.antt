-- It is said how many rows were given again.
use Rattle.std.proofs.Common.{ℕ, ◌∙◌, [], ◌∷◌, ap, refl, subst}
use Rattle.std.proofs.lemmas.Result.{on_err_weaker, on_ok_weaker}
use Rattle.std.specs.Io.KnownBytes.{Appends}
use Rattle.nrm_edge.specs.Pieces.{AppendsFront}
use Rattle.nrm_frames.specs.Outgoing.{output_text, ready}
use Rattle.nrm_frames.specs.declared.header.Header.TheVariants as header
use Rattle.nrm_hub.specs.Goes.{Goes}
use Rattle.nrm_hub.specs.Hub.{HubValue}
use Rattle.nrm_hub.specs.World.{frame}
use Rattle.nrm_hub.specs.declared.phase.Phase.TheVariants as phase
use Rattle.nrm_hub.proofs.Going.{goes-ready, goes-same}
use Rattle.nrm_hub.proofs.HubPuts.{puts-one, puts-one-cut}
use Rattle.nrm_hub.proofs.OfFields.{hub_of}
use Rattle.nrm_hub.proofs.hub.Hub.ready.Goals as goal

pub returns-clause-puts : goal.returns-clause-puts
returns-clause-puts g c =
    let held = g.K.Sink.held in
    let old : HubValue = hub_of c.self.inside.register c.self.inside.clients.items c.self.inside.opened c.self.inside.phase in
    let new : HubValue = record old { phase = phase.Settled } in
    let goes : Goes c.args.self.now new (frame (header.Again 0) [] ∷ []) (ready old.register.rows ∷ []) =
    goes-same old c.args.self.now new new (frame (header.Again 0) [] ∷ []) (ready old.register.rows ∷ []) c.self.view_is refl
    (goes-ready old (ap (λ (h : HubValue). h.phase) c.self.view_is ∙ c.requires)) in
    on_ok_weaker c.put_ready.result
    (λ whole. puts-one c.args.self.now new (ready old.register.rows) (held c.args.sink.now) (held c.put_ready.new.sink) goes
    (subst (λ (n : ℕ). Appends (held c.args.sink.now) (held c.put_ready.new.sink) (output_text (ready n))) c.rows.ensures.rows whole))
    c.put_ready.ensures.whole

pub returns-clause-cut : goal.returns-clause-cut
returns-clause-cut g c =
    let held = g.K.Sink.held in
    let old : HubValue = hub_of c.self.inside.register c.self.inside.clients.items c.self.inside.opened c.self.inside.phase in
    let new : HubValue = record old { phase = phase.Settled } in
    let goes : Goes c.args.self.now new (frame (header.Again 0) [] ∷ []) (ready old.register.rows ∷ []) =
    goes-same old c.args.self.now new new (frame (header.Again 0) [] ∷ []) (ready old.register.rows ∷ []) c.self.view_is refl
    (goes-ready old (ap (λ (h : HubValue). h.phase) c.self.view_is ∙ c.requires)) in
    on_err_weaker c.put_ready.result
    (λ front. puts-one-cut c.args.self.now new (ready old.register.rows) (held c.args.sink.now) (held c.put_ready.new.sink) goes
    (subst (λ (n : ℕ). AppendsFront (held c.args.sink.now) (held c.put_ready.new.sink) (output_text (ready n))) c.rows.ensures.rows front))
    c.put_ready.ensures.cut
