use Rattle.std.proofs.Common.{ℕ, ◌∷◌, [], ◌∙◌, Vec, map, ap}
use Rattle.std.specs.declared.alloc.Global.{Global}
use Rattle.std.proofs.lemmas.List.{map-append}
use Rattle.nrm_model.proofs.Lists.{map-number-more}
use Rattle.nrm_emsr.specs.Protections.{protections_of}
use Rattle.nrm_plan.proofs.nests.protections_of_legs.Goals as goal

pub loop-leg-preserved : goal.loop-leg-preserved
loop-leg-preserved c =
    let pushed = ap (map (λ (v : Vec ℕ Global). v.items)) c.in_ok-push.ensures.items ∙ map-append (λ (v : Vec ℕ Global). v.items) c.loop-leg.levels.items (c.in_ok-protections.field-0 ∷ []) in
    map-number-more (λ i. protections_of c.args.net.now c.args.certificate.now i c.args.period) pushed c.loop-leg.invariant c.in_ok-protections.ensures
