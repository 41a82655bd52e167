-- The row of one more product.
use Rattle.std.proofs.Common.{ℕ, ◌∙◌, ◌++◌, List, ap}
use Rattle.nrm_model.specs.declared.product.Product.{Product}
use Rattle.nrm_network.specs.Inner.RowText.{row_text}
use Rattle.nrm_network.specs.Canonical.{product_fields}
use Rattle.nrm_network.proofs.RowTexts.{element_more}
use Rattle.nrm_network.proofs.writing.push_products.Goals as goal

pub loop-j-preserved : goal.loop-j-preserved
loop-j-preserved c =
    c.in_ok-push_product.ensures ∙ ap
    (λ (xs : List ℕ). xs ++ row_text (product_fields c.args.net.now c.product_at.result.now)) c.loop-j.invariant
    ∙ element_more (λ (product : Product).
    row_text (product_fields c.args.net.now product)) c.args.text.now.items c.args.net.now.products c.loop-j.j c.product_at.result.now
    c.product_at.ensures.product
