-- The parts that are read make the certificate.
use Rattle.std.proofs.Common.{rules, ◌≡◌, ◌∙◌, ap, sym, subst, arith, suc, pos, List, length, All, None, to_z, of_z, to_z-of_z, w64}
use mir.Val.{SFits}
use Rattle.std.proofs.lemmas.Result.{err_from_is_err_and}
use Rattle.nrm_fraction.specs.Large.{first_too_large, size_limit, common, numerators}
use Rattle.nrm_fraction.specs.Fraction.{Fraction}
use Rattle.nrm_lp.specs.Closing.{certificate}
use Rattle.nrm_lp.specs.Overflow.{closing_large}
use Rattle.nrm_lp.specs.Tableau.{entering, right_side}
use Rattle.nrm_fraction.specs.Fault.{IsFault}
use Rattle.nrm_tableau.specs.Value.{TableauValue}
use Rattle.nrm_tableau.proofs.Paths.{kept, widths}
use Rattle.nrm_tableau.proofs.LastValue.{read_counts, read_signs, read_values, value_read, certificate_made, prices_denominators}
use Rattle.nrm_fraction.proofs.Sizes.{small_same}
use Rattle.nrm_tableau.proofs.tableau.Tableau.closing.Goals as goal

pub allotted-requires-clause-count : goal.allotted-requires-clause-count
allotted-requires-clause-count c =
    let last = subst (λ (s : TableauValue). entering s.table ≡ None) (sym c.self.view_is) c.requires.last in
    read_counts _ c.self.invariant.path last c.deref-2.result.now c.deref.result.now c.deref-2.ensures.value c.deref.ensures.value

pub allotted-requires-clause-widths : goal.allotted-requires-clause-widths
allotted-requires-clause-widths c = subst (λ (rows : List (List Fraction)). All (λ (row : List Fraction). length row ≡ suc (right_side c.self.inside.program.now)) rows) (sym c.deref.ensures.value) (widths _ c.self.invariant.path)

pub allotted-requires-clause-signs : goal.allotted-requires-clause-signs
allotted-requires-clause-signs c =
    let last = subst (λ (s : TableauValue). entering s.table ≡ None) (sym c.self.view_is) c.requires.last in
    read_signs _ c.self.invariant.path last c.deref.result.now c.deref.ensures.value

pub returns-in_err-q : goal.returns-in_err-q
returns-in_err-q c =
    let last = subst (λ (s : TableauValue). entering s.table ≡ None) (sym c.self.view_is) c.requires.last in
    let p = err_from_is_err_and c.from_residual.result c.from_residual.ensures.1 in
    rw (p.1, p.2)
    (subst (λ (s : TableauValue). IsFault c.in_err-q.field-0.0 (closing_large size_limit s.program s.table)) c.self.view_is
    (subst (λ values. IsFault c.in_err-q.field-0.0 (first_too_large size_limit values)) (read_values _ c.self.invariant.path last c.deref-2.result.now c.deref.result.now c.deref-2.ensures.value c.deref.ensures.value) c.in_err-q.ensures))

pub leg_prices-requires : goal.leg_prices-requires
leg_prices-requires c = (kept _ c.self.invariant.path).value_width

pub value_over-requires-clause-within : goal.value_over-requires-clause-within
value_over-requires-clause-within c = omega (arith, (kept _ c.self.invariant.path).value_width, c.right_side.ensures.column)

pub value_over-requires-clause-denominators : goal.value_over-requires-clause-denominators
value_over-requires-clause-denominators c =
    let last = subst (λ (s : TableauValue). entering s.table ≡ None) (sym c.self.view_is) c.requires.last in
    prices_denominators _ c.self.invariant.path last c.in_ok-prices.prices c.in_ok-prices.ensures

pub returns : goal.returns
returns c =
    let last = subst (λ (s : TableauValue). entering s.table ≡ None) (sym c.self.view_is) c.requires.last in
    let values = read_values _ c.self.invariant.path last c.deref-2.result.now c.deref.result.now c.deref-2.ensures.value c.deref.ensures.value in
    let q : SFits w64 c.in_ok-q.q = search rules in
    let v : SFits w64 c.value_over.result = search rules in (
      certificate_made _ c.self.invariant.path last (to_z w64 (of_z w64 c.in_ok-q.q)) (to_z w64 (of_z w64 c.den.result)) (to_z w64 (of_z w64 c.value_over.result)) c.new.result c.new-2.result c.in_ok-prices.prices
          (to_z-of_z q ∙ c.in_ok-q.ensures.0 ∙ ap (λ xs. pos (common xs)) values)
          (c.new.ensures ∙ c.in_ok-q.ensures.1 ∙ ap (λ xs. numerators (common xs) xs) values)
          c.in_ok-prices.ensures
          (small_same c.den.result c.den.ensures.small ∙ c.den.ensures.den)
          (c.new-2.ensures ∙ c.in_ok-p.ensures)
          (value_read _ c.self.invariant.path last c.right_side.result c.in_ok-prices.prices (to_z w64 (of_z w64 c.value_over.result)) c.right_side.ensures.column c.in_ok-prices.ensures (to_z-of_z v ∙ c.value_over.ensures))
          ∙ ap (λ (s : TableauValue). certificate s.program s.table) c.self.view_is,
      subst (λ (s : TableauValue). closing_large size_limit s.program s.table ≡ None) c.self.view_is (subst (λ xs. first_too_large size_limit xs ≡ None) values c.in_ok-q.ensures.2),
    )
