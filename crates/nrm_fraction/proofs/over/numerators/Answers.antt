-- Numerators below the limit so far, up to the first that reaches it.
use Rattle.std.proofs.Common.{arith, sym, ap, ◌∙◌, pos, ◌++◌, [], ◌∷◌, refl, Some}
use Rattle.std.proofs.lemmas.List.{get_or_read}
use Rattle.nrm_fraction.specs.Fraction.{whole}
use Rattle.nrm_fraction.proofs.Numerators.{number_fault, number_more, all_made, short_same, wide_same}
use Rattle.nrm_fraction.proofs.over.numerators.Goals as goal

pub loop-fraction-init : goal.loop-fraction-init
loop-fraction-init c = record { numbers = c.new-made.ensures.items; rest = refl }

pub returns-then-number : goal.returns-then-number
returns-then-number c =
    number_fault c.args.den c.args.fractions.now c.loop-fraction.fraction-index c.loop-fraction.made.items c.fraction-item.result c.numerator-number.result c.loop-fraction.invariant c.loop-fraction-test.true
    (sym (get_or_read c.args.fractions.now c.loop-fraction.fraction-index c.fraction-item.result c.loop-fraction-test.true c.fraction-item.is (whole (pos 0)))) c.numerator-number.ensures.value (omega (arith, c.if-number.true))
    ∙ ap Some (sym (wide_same c.numerator-number.result c.numerator-number.ensures.size))

pub loop-fraction-preserved : goal.loop-fraction-preserved
loop-fraction-preserved c =
    number_more c.args.den c.args.fractions.now c.loop-fraction.fraction-index c.loop-fraction.made.items c.fraction-item.result c.numerator-number.result c.loop-fraction.invariant c.loop-fraction-test.true
    (sym (get_or_read c.args.fractions.now c.loop-fraction.fraction-index c.fraction-item.result c.loop-fraction-test.true c.fraction-item.is (whole (pos 0)))) c.numerator-number.ensures.value (omega (arith, c.if-number.false))
    c.push.new.self.items (c.in_ok-push.ensures.items ∙ ap (λ n. c.loop-fraction.made.items ++ n ∷ []) (short_same c.numerator-number.result (omega (arith, c.if-number.false))))

pub returns : goal.returns
returns c = all_made c.args.den c.args.fractions.now c.loop-fraction.fraction-index c.loop-fraction.made.items c.loop-fraction.invariant (omega arith)
