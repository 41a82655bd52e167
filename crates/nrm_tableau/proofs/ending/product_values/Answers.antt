-- One more product.
use Rattle.std.proofs.Common.{◌∙◌, ap}
use Rattle.nrm_lp.specs.Closing.{basic_value}
use Rattle.nrm_lp.specs.Tableau.{right_side}
use Rattle.nrm_tableau.proofs.LastRows.{values_more}
use Rattle.nrm_tableau.proofs.ending.product_values.Goals as goal

pub loop-product-preserved : goal.loop-product-preserved
loop-product-preserved c =
    let bs = c.args.basis.now in
    let rows = c.args.rows.now in
    values_more (λ j. basic_value (right_side c.args.program.now) j bs rows) c.loop-product.product c.loop-product.values.items c.push.new.self.items c.value_of.result c.loop-product.invariant
    (c.value_of.ensures ∙ ap (λ end. basic_value end c.loop-product.product bs rows) c.right_side-end.ensures.column)
    c.in_ok-push.ensures.items
