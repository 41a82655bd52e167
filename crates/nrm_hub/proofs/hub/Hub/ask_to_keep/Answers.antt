-- The rows are given out.
use Rattle.std.proofs.Common.{ℕ, ◌∙◌, [], ◌∷◌, List, sym, ap, subst}
use Rattle.std.proofs.lemmas.Result.{on_err_weaker, on_ok_weaker}
use Rattle.std.specs.Io.KnownBytes.{Appends}
use Rattle.nrm_edge.specs.Pieces.{AppendsFront}
use Rattle.nrm_frames.specs.Outgoing.{keep, output_text}
use Rattle.nrm_hub.specs.Goes.{Goes}
use Rattle.nrm_hub.specs.Hub.{HubValue}
use Rattle.nrm_hub.specs.Register.{RegisterValue}
use Rattle.nrm_hub.specs.Waiting.{HadTurn, OfEach}
use Rattle.nrm_hub.specs.declared.phase.Phase.TheVariants as phase
use Rattle.nrm_hub.proofs.Going.{goes-asked, goes-same}
use Rattle.nrm_hub.proofs.HubPuts.{puts-one, puts-one-cut}
use Rattle.nrm_hub.proofs.OfFields.{hub_of}
use Rattle.nrm_hub.proofs.hub.Hub.ask_to_keep.Goals as goal

pub returns-clause-puts : goal.returns-clause-puts
returns-clause-puts g c =
    let held = g.K.Sink.held in
    let old : HubValue = hub_of c.self.inside.register c.self.inside.clients.items c.self.inside.opened c.self.inside.phase in
    let new : HubValue = record old { register = c.clear_text.new.self; phase = phase.Asked } in
    let goes : Goes c.args.self.now new [] (keep old.register.text ∷ []) =
    goes-same old c.args.self.now (record old { register = record old.register { text = [] }; phase = phase.Asked }) new [] (keep old.register.text ∷ [])
    c.self.view_is (ap (λ (r : RegisterValue). let h : HubValue = record old { register = r; phase = phase.Asked } in h) (sym c.clear_text.ensures))
    (goes-asked old (ap (λ (h : HubValue). h.phase) c.self.view_is ∙ c.requires.answering)
    (subst (λ (h : HubValue). OfEach HadTurn h) (sym c.self.view_is) c.requires.turns)) in
    on_ok_weaker c.put_keep-put.result
    (λ whole. puts-one c.args.self.now new (keep old.register.text) (held c.args.sink.now) (held c.put_keep-put.new.sink) goes
    (subst (λ (rows : List ℕ). Appends (held c.args.sink.now) (held c.put_keep-put.new.sink) (output_text (keep rows))) c.text.ensures whole))
    c.put_keep-put.ensures.whole

pub returns-clause-cut : goal.returns-clause-cut
returns-clause-cut g c =
    let held = g.K.Sink.held in
    let old : HubValue = hub_of c.self.inside.register c.self.inside.clients.items c.self.inside.opened c.self.inside.phase in
    let new : HubValue = record old { register = c.clear_text.new.self; phase = phase.Asked } in
    let goes : Goes c.args.self.now new [] (keep old.register.text ∷ []) =
    goes-same old c.args.self.now (record old { register = record old.register { text = [] }; phase = phase.Asked }) new [] (keep old.register.text ∷ [])
    c.self.view_is (ap (λ (r : RegisterValue). let h : HubValue = record old { register = r; phase = phase.Asked } in h) (sym c.clear_text.ensures))
    (goes-asked old (ap (λ (h : HubValue). h.phase) c.self.view_is ∙ c.requires.answering)
    (subst (λ (h : HubValue). OfEach HadTurn h) (sym c.self.view_is) c.requires.turns)) in
    on_err_weaker c.put_keep-put.result
    (λ front. puts-one-cut c.args.self.now new (keep old.register.text) (held c.args.sink.now) (held c.put_keep-put.new.sink) goes
    (subst (λ (rows : List ℕ). AppendsFront (held c.args.sink.now) (held c.put_keep-put.new.sink) (output_text (keep rows))) c.text.ensures front))
    c.put_keep-put.ensures.cut

pub invariant_of-self : goal.invariant_of-self
invariant_of-self g c =
    (rw c.clear_text.ensures c.self.invariant.0, c.self.invariant.1, λ e. absurd (cc), λ e. absurd (cc))
