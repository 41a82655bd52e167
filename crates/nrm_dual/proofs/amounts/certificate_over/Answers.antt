-- The shares over their least common denominator, and the money over its own, make the certificate of the sheet, or say what is too large.
use Rattle.std.proofs.Common.{◌≡◌, ◌∙◌, ◌∷◌, subst, List, map, None}
use Rattle.nrm_fraction.specs.Fraction.{Fraction}
use Rattle.nrm_fraction.specs.Fault.{IsFault}
use Rattle.nrm_fraction.specs.Large.{first_too_large, size_limit}
use Rattle.nrm_dual.specs.Reading.{prices_in, times, certificate_or_refusal}
use Rattle.nrm_dual.specs.Refusals.{cause_of}
use Rattle.nrm_dual.proofs.TooFine.{err_answer, fault_of_shares, fault_of_money, made_whole}
use Rattle.nrm_dual.proofs.amounts.certificate_over.Goals as goal

pub returns-in_err-q : goal.returns-in_err-q
returns-in_err-q c =
    let shares = map (times c.args.histories) c.args.sheet.now.products in
    let value = times c.args.histories c.args.sheet.now.value in
    let prices = prices_in c.args.sheet.now in
    let are : c.deref.result.now ≡ shares = c.deref.ensures.value ∙ c.in_ok-shares.ensures in
    let large : IsFault c.in_err-q.field-0.0 (first_too_large size_limit shares) = subst (λ (xs : List Fraction). IsFault c.in_err-q.field-0.0 (first_too_large size_limit xs)) are c.in_err-q.ensures in
    err_answer c.from_residual-in_err-q.result (cause_of c.in_err-q.field-0.0) (certificate_or_refusal shares value prices) c.from_residual-in_err-q.ensures.1 (fault_of_shares shares value prices c.in_err-q.field-0.0 large)

pub returns-in_err-den : goal.returns-in_err-den
returns-in_err-den c =
    let shares = map (times c.args.histories) c.args.sheet.now.products in
    let value = times c.args.histories c.args.sheet.now.value in
    let prices = prices_in c.args.sheet.now in
    let are : c.deref.result.now ≡ shares = c.deref.ensures.value ∙ c.in_ok-shares.ensures in
    let are_money : c.deref-2.result.now ≡ value ∷ prices = c.deref-2.ensures.value ∙ c.in_ok-value_and_prices.ensures in
    let small : first_too_large size_limit shares ≡ None = subst (λ (xs : List Fraction). first_too_large size_limit xs ≡ None) are c.in_ok-q.ensures.2 in
    let large : IsFault c.in_err-den.field-0.0 (first_too_large size_limit (value ∷ prices)) = subst (λ (xs : List Fraction). IsFault c.in_err-den.field-0.0 (first_too_large size_limit xs)) are_money c.in_err-den.ensures in
    err_answer c.from_residual-in_err-den.result (cause_of c.in_err-den.field-0.0) (certificate_or_refusal shares value prices) c.from_residual-in_err-den.ensures.1 (fault_of_money shares value prices c.in_err-den.field-0.0 small large)

pub returns : goal.returns
returns c =
    let shares = map (times c.args.histories) c.args.sheet.now.products in
    let value = times c.args.histories c.args.sheet.now.value in
    let prices = prices_in c.args.sheet.now in
    let are : c.deref.result.now ≡ shares = c.deref.ensures.value ∙ c.in_ok-shares.ensures in
    let are_money : c.deref-2.result.now ≡ value ∷ prices = c.deref-2.ensures.value ∙ c.in_ok-value_and_prices.ensures in
    made_whole shares value prices c.in_ok-q.q c.in_ok-q.x.items c.in_ok-den.den c.in_ok-den.money.items c.certificate_with.result
    (rw are at c.in_ok-q.ensures) (rw are_money at c.in_ok-den.ensures) c.certificate_with.ensures
