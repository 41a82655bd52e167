use Rattle.std.proofs.Common.{List, ◌∷◌, [], ◌++◌, ◌∙◌, ℕ, map, take, sym, ap, arith}
use Rattle.std.proofs.lemmas.List.{map_more}
use Rattle.std.proofs.lemmas.Option.{get_or_from_slice_get}
use Rattle.nrm_model.specs.declared.leg.Leg.{Leg}
use Rattle.nrm_plan.proofs.plan.full_seats.Goals as goal

pub loop-leg-preserved : goal.loop-leg-preserved
loop-leg-preserved c =
    let leg = c.leg_at.result.now in
    let seats : Leg → ℕ = λ (leg : Leg). leg.authorised in
    let read = get_or_from_slice_get c.args.net.now.legs c.loop-leg.leg leg leg (sym c.leg_at.ensures.leg) in
    let more = map_more seats c.args.net.now.legs c.loop-leg.leg leg (omega arith) in
    c.push.ensures ∙ ap (λ (so_far : List ℕ). so_far ++ leg.authorised ∷ []) c.loop-leg.invariant
    ∙ ap (λ (leg : Leg). map seats (take c.loop-leg.leg c.args.net.now.legs) ++ leg.authorised ∷ []) (sym read) ∙ sym more
