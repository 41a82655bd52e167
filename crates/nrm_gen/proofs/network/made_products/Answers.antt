-- One product more, and one draw.
use Rattle.std.proofs.Common.{◌≡◌, ◌+◌, arith}
use Rattle.nrm_gen.specs.MadeNetwork.{made_product}
use Rattle.nrm_gen.proofs.Rows.{row-more}
use Rattle.nrm_gen.proofs.network.made_products.Goals as goal

pub loop-product-preserved : goal.loop-product-preserved
loop-product-preserved c =
    let one_more : 12 + (c.loop-product.product + 1) ≡ 12 + c.loop-product.product + 1 = omega arith in
    record {
      products = λ number begun. row-more (made_product number) c.loop-product.product _ _ _
          (c.loop-product.invariant.products number begun)
          (c.in_ok-made_product.ensures.product number (c.loop-product.invariant.state number begun)) c.in_ok-push.ensures.items;
      state = λ number begun. rw one_more (c.in_ok-made_product.ensures.state number (c.loop-product.invariant.state number begun));
    }
