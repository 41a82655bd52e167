-- One more leg has its list.
use Rattle.std.proofs.Common.{◌∙◌, ◌∷◌, ◌++◌, [], List, ℕ, ap, ap₂, map, sym, arith}
use Rattle.std.proofs.lemmas.List.{map-append}
use Rattle.std.proofs.lemmas.List.FromFn.{map-range_with_len_more}
use Rattle.nrm_solver_tests.proofs.simplex.legs_of_singles.Goals as goal

pub loop-leg-preserved : goal.loop-leg-preserved
loop-leg-preserved c =
    ap (map (λ v. v.items)) c.in_ok-push.ensures.items
    ∙ map-append (λ v. v.items) c.loop-leg.legs.items (c.in_ok-own.own ∷ [])
    ∙ ap₂ (λ (xs : List (List ℕ)) (x : List ℕ). xs ++ x ∷ []) c.loop-leg.invariant c.in_ok-own.ensures.items
    ∙ sym (map-range_with_len_more (λ j. j ∷ []) 0 c.loop-leg.leg c.loop-leg.leg (omega arith))
