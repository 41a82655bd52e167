-- The row of one more product, if it has one.
use Rattle.std.proofs.Common.{ℕ, ◌∙◌, ◌++◌, List, ap, flat_map}
use Rattle.nrm_model.specs.declared.product.Product.{Product}
use Rattle.nrm_network.specs.Canonical.{refund_fields}
use Rattle.nrm_network.specs.Inner.RowText.{row_text}
use Rattle.nrm_network.proofs.RowTexts.{element_more}
use Rattle.nrm_network.proofs.writing.push_refunds.Goals as goal

pub loop-j-preserved : goal.loop-j-preserved
loop-j-preserved c =
    c.in_ok-push_refund.ensures ∙ ap (λ (xs : List ℕ). xs ++ flat_map row_text (refund_fields c.product_at.result.now)) c.loop-j.invariant
    ∙ element_more (λ (product : Product). flat_map row_text (refund_fields product)) c.args.text.now.items c.args.net.now.products c.loop-j.j
    c.product_at.result.now c.product_at.ensures.product
