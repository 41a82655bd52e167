-- The least common denominator so far, below the limit, up to the first that reaches it.
use Rattle.std.proofs.Common.{◌≡◌, ◌+◌, arith, sym, ap, ◌∙◌, subst, pos}
use Rattle.std.proofs.lemmas.List.{get_or_read}
use Rattle.nrm_number.specs.Gcd.{lcm as lcm_of}
use Rattle.nrm_fraction.specs.Fraction.{whole}
use Rattle.nrm_fraction.proofs.Running.{IsRun, run_first, run_more, run_last}
use Rattle.nrm_fraction.proofs.over.common_denominator.Goals as goal

pub loop-fraction-init : goal.loop-fraction-init
loop-fraction-init c = run_first c.args.fractions.now

pub loop-fraction-preserved : goal.loop-fraction-preserved
loop-fraction-preserved c =
    let value : c.lcm-wide.result ≡ lcm_of c.fraction-item.result.den c.loop-fraction.den = c.lcm-wide.ensures.value ∙ ap (λ x. lcm_of x c.loop-fraction.den) c.den.ensures.value in
    subst (IsRun c.args.fractions.now (c.loop-fraction.fraction-index + 1)) (sym value)
    (run_more c.args.fractions.now c.loop-fraction.fraction-index c.loop-fraction.den c.fraction-item.result c.loop-fraction.invariant c.loop-fraction-test.true
    (sym (get_or_read c.args.fractions.now c.loop-fraction.fraction-index c.fraction-item.result c.loop-fraction-test.true c.fraction-item.is (whole (pos 0))))
    (omega (arith, value, c.if-wide.false)))

pub returns : goal.returns
returns c = run_last c.args.fractions.now c.loop-fraction.fraction-index c.loop-fraction.den c.loop-fraction.invariant (omega arith)
