-- The range is the list of the slack columns.
use Rattle.std.proofs.Common.{◌≡◌, ◌∙◌, sym, ap, arith, refl, map}
use Rattle.std.specs.List.{range_with_len}
use Rattle.std.specs.Vec.{vec_items}
use Rattle.std.proofs.lemmas.Result.{IfOk-weaker}
use Rattle.std.proofs.lemmas.Iterator.{items_from_collect, YieldsList-from_range}
use Rattle.nrm_lp.specs.Tableau.{slack, row_count}
use Rattle.nrm_tableau.proofs.FirstEntries.{slacks_are}
use Rattle.nrm_tableau.proofs.first.first_basis.Goals as goal

pub returns-clause-basis : goal.returns-clause-basis
returns-clause-basis c =
    let a = c.args.program.now in
    let all = range_with_len c.product_count.result (row_count a) in
    let start : slack a 0 ≡ c.product_count.result = omega (arith, c.product_count.ensures.count) in
    let same : all ≡ map (slack a) (range_with_len 0 (row_count a)) = ap (λ k. range_with_len k (row_count a)) (sym start) ∙ sym (slacks_are a (row_count a) 0) in
    IfOk-weaker c.collect.result (λ v. vec_items v ≡ all) (λ v. v.items ≡ map (slack a) (range_with_len 0 (row_count a))) (λ v e. e ∙ same)
    (items_from_collect c.collect.result c.collect.ensures.ran (YieldsList-from_range c.product_count.result c.right_side.result (row_count a) refl (omega (arith, c.product_count.ensures.count, c.right_side.ensures.column))))
