-- The difference of two products fits.
use Rattle.std.proofs.Common.{◌<◌, ◌^◌, ◌-ℤ◌, ◌*ℤ◌, unsigned_abs, ap₂, sym, subst, ◌∙◌, to_z-of_z}
use Rattle.nrm_row.proofs.Bits.{difference_is, difference_fits, difference_bound}
use Rattle.nrm_row.proofs.numbers.cross.Goals as goal

pub returns-clause-value : goal.returns-clause-value
returns-clause-value c =
    difference_is c.product-left.result c.product-right.result c.product-left.ensures.bound c.product-right.ensures.bound
    ∙ ap₂ (λ p q. p -ℤ q)
    (c.product-left.ensures.value ∙ ap₂ (λ s t. s *ℤ t) (to_z-of_z c.ranges.x) (to_z-of_z c.ranges.e))
    (c.product-right.ensures.value ∙ ap₂ (λ s t. s *ℤ t) (to_z-of_z c.ranges.a) (to_z-of_z c.ranges.u))

pub returns-clause-bound : goal.returns-clause-bound
returns-clause-bound c =
    subst (λ z. unsigned_abs z < 2 ^ 97) (sym (difference_is c.product-left.result c.product-right.result c.product-left.ensures.bound c.product-right.ensures.bound))
    (difference_bound c.product-left.result c.product-right.result c.product-left.ensures.bound c.product-right.ensures.bound)

pub overflow_sub-result : goal.overflow_sub-result
overflow_sub-result c = difference_fits c.product-left.result c.product-right.result c.product-left.ensures.bound c.product-right.ensures.bound
