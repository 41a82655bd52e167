use Rattle.std.proofs.Common.{ℕ, ◌∙◌, [], ◌∷◌, map, ap, Vec}
use Rattle.std.specs.declared.alloc.Global.{Global}
use Rattle.std.proofs.lemmas.List.{map-append}
use Rattle.nrm_model.specs.Stored.{numbers_using}
use Rattle.nrm_model.proofs.Lists.{map-number-more}
use Rattle.nrm_model.proofs.network.products_on_legs.Goals as goal

pub loop-leg-preserved : goal.loop-leg-preserved
loop-leg-preserved c =
    let pushed = ap (map (λ (v : Vec ℕ Global). v.items)) c.in_ok-push.ensures.items ∙ map-append (λ (v : Vec ℕ Global). v.items) c.loop-leg.on_legs.items (c.in_ok-products_using.field-0 ∷ []) in
    map-number-more (numbers_using c.args.products.now) pushed c.loop-leg.invariant c.in_ok-products_using.ensures
