-- The prices' denominator isn't above the value row's, so the quotient isn't 0.
use Rattle.std.proofs.Common.{◌<◌, ◌/◌, ◌∙◌, ap, ap₂, sym, subst, nat_abs}
use Rattle.nrm_fraction.specs.Large.{common}
use Rattle.nrm_fraction.proofs.Lowest.{common_pos}
use Rattle.nrm_tableau.proofs.LastRows.{quotient_some}
use Rattle.nrm_fraction.proofs.Sizes.{small_same}
use Rattle.nrm_tableau.proofs.ending.value_over.Goals as goal

pub nonzero_div-times : goal.nonzero_div-times
nonzero_div-times c = subst (λ n. 0 < n) (sym (c.unsigned_abs-2.ensures.value ∙ ap nat_abs (small_same c.den-2.result c.den-2.ensures.small ∙ c.den-2.ensures.den))) (common_pos c.args.prices.now)

pub nonzero_div-result : goal.nonzero_div-result
nonzero_div-result c =
    subst (λ n. 0 < n)
    (sym (ap₂ (λ m n. m / n) (c.unsigned_abs.ensures.value ∙ ap nat_abs (small_same c.den.result c.den.ensures.small ∙ c.den.ensures.den)) (c.unsigned_abs-2.ensures.value ∙ ap nat_abs (small_same c.den-2.result c.den-2.ensures.small ∙ c.den-2.ensures.den))))
    (quotient_some (common c.args.value.now) (common c.args.prices.now) (common_pos c.args.prices.now) c.requires.denominators)
