-- One more entry, at a column that has a set or past them.
use Rattle.std.proofs.Common.{◌<◌, ◌≤◌, ◌∙◌, ◌∷◌, ◌++◌, set, ℕ, pos, ap, sym, subst, arith, length, take, get_or, []}
use Rattle.std.proofs.lemmas.List.{get_or_default, take_more}
use Rattle.nrm_tableau.specs.RowSets.{row_bit}
use Rattle.nrm_tableau.proofs.Sets.{IsSpreadTo, spread_more, spread_past}
use Rattle.nrm_tableau.proofs.pivot.spread.Goals as goal
use Rattle.nrm_tableau.proofs.pivot.spread.Goals.{then-place-sets, else-place-sets}

pub loop-col-preserved : goal.loop-col-preserved
loop-col-preserved c =
    let old = c.args.sets.now in
    let now = c.loop-col.sets in
    let es = c.args.entries.now in
    let i = c.loop-col.col-index in
    let within : i < length es = omega (arith, c.loop-col-test.true) in
    let more = sym (take_more es i (0, pos 0) within) in
    subst (IsSpreadTo old c.if-place-sets.sets c.args.changed.now) more
    (elim c.if-place-sets.branch [
      | then-place-sets w ↦
          let joined = w.join.new.self in
          let read = λ (r : ℕ). ap (λ ws. row_bit ws r) (get_or_default now c.from-place.result w.index-sets-place.result [] w.if-place-sets.true) ∙ ap (λ k. row_bit (get_or now k []) r) c.from-place.ensures in
          subst (λ sets. IsSpreadTo old sets c.args.changed.now (take i es ++ get_or es i (0, pos 0) ∷ [])) (sym (w.sets-is ∙ ap (λ k. set now k joined) c.from-place.ensures))
          (spread_more old now c.args.changed.now joined (take i es) (get_or es i (0, pos 0)).0 (get_or es i (0, pos 0)).1 (subst (λ k. k < length now) c.from-place.ensures w.if-place-sets.true)
          (λ r nought. (sym (read r) ∙ (w.join.ensures r nought).0, (w.join.ensures r nought).1)) c.loop-col.invariant)
      | else-place-sets w ↦
          subst (λ sets. IsSpreadTo old sets c.args.changed.now (take i es ++ get_or es i (0, pos 0) ∷ [])) (sym w.sets-is)
          (spread_past old now c.args.changed.now (take i es) (get_or es i (0, pos 0)).0 (get_or es i (0, pos 0)).1 (subst (λ k. length now ≤ k) c.from-place.ensures w.if-place-sets.false) c.loop-col.invariant)
    ])
