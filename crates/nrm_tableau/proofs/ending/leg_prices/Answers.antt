-- The slack columns of the legs are the first after the products.
use Rattle.std.proofs.Common.{◌≡◌, ◌∙◌, ap₂, subst, arith, IfOk, take, drop, length}
use Rattle.nrm_lp.specs.Tableau.{product_count}
use Rattle.nrm_tableau.proofs.LastRows.{part_at}
use Rattle.nrm_tableau.proofs.ending.leg_prices.Goals as goal

pub returns : goal.returns
returns c =
    subst (λ target. IfOk c.part.result (λ prices. prices ≡ target))
    (ap₂ (λ n k. take n (drop k c.args.value.now)) (c.from-legs.ensures ∙ c.leg_count.ensures.count) c.product_count.ensures.count ∙ part_at c.args.value.now (product_count c.args.program.now) (length c.args.program.now.caps) (omega (arith, c.requires)))
    c.part.ensures
