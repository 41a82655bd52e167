-- Each row is made behind those before it; those between the rows of the set are passed by.
use Rattle.std.proofs.Common.{None, ◌≡◌, ◌<◌, ◌+◌, ◌-◌, ◌∙◌, ap, arith, get_or, length, set, subst, sym, List, []}
use Rattle.std.proofs.lemmas.List.{get_or_read}
use Rattle.std.proofs.lemmas.Result.{err_from_is_err_and}
use Rattle.nrm_fraction.specs.Fraction.{Fraction}
use Rattle.nrm_fraction.specs.Large.{large_number, size_limit}
use Rattle.nrm_fraction.specs.Rows.{at, combine}
use Rattle.nrm_fraction.specs.Fault.{IsFault}
use Rattle.nrm_tableau.specs.RowSets.{row_bit}
use Rattle.nrm_tableau.specs.Inner.Walks.{HasNone, IsFirst}
use Rattle.nrm_tableau.proofs.Combined.{IsCombinedTo, all_made, made_one, next_row, passed}
use Rattle.nrm_tableau.proofs.Faults.{fault_at}
use Rattle.nrm_tableau.proofs.pivot.combine_each.Goals as goal

pub loop-number-preserved : goal.loop-number-preserved
loop-number-preserved c =
    let rows = c.args.rows.now in
    let inv = c.loop-number.invariant in
    let first = c.args.first in
    let k = c.in-Some.number - first in
    let now = c.loop-number.rows in
    let new = c.combine_row.new.row in
    let found : IsFirst c.args.touched.now c.loop-number.walk.from (first + length rows) c.in-Some.number = subst (λ ws. IsFirst ws c.loop-number.walk.from (first + length rows) c.in-Some.number) inv.same c.in-Some.ensures.next.0 in
    let within : k < length rows = omega (arith, found.before, found.not_below, inv.low) in
    let number_is : c.in-Some.number ≡ first + k = omega (arith, found.not_below, inv.low) in
    let here : IsCombinedTo c.args.col c.args.unit.now rows first now c.loop-number.changed k =
    passed c.args.col c.args.unit.now rows first c.requires.widths c.none_is_large.ensures now c.loop-number.changed (c.loop-number.walk.from - first) k (omega (arith, found.not_below)) (omega (arith, within)) (λ j low high. c.requires.noughts j (omega (arith, high, within)) (found.none (first + j) (omega (arith, low)) (omega (arith, high, number_is)))) inv.made in
    let row_is : get_or now c.from-place.result c.index-rows-place.result ≡ get_or rows k [] = sym c.index-rows-place.is ∙ get_or_read now c.from-place.result c.index-rows-place.result (omega arith) c.index-rows-place.is [] ∙ ap (λ i. get_or now i []) c.from-place.ensures ∙ next_row c.args.col c.args.unit.now rows first now c.loop-number.changed k within here in
    let made = c.in_ok-combine_row.ensures.made in
    let from_is = c.in-Some.ensures.next.1 in
    let next : k + 1 ≡ c.next_before.new.self.from - first = omega (arith, number_is, from_is) in
    record {
      same = c.in-Some.ensures.words ∙ inv.same;
      count = ap length c.in-Some.ensures.words ∙ inv.count;
      low = omega (arith, found.not_below, inv.low, from_is);
      high = omega (arith, found.before, from_is);
      made = subst (IsCombinedTo c.args.col c.args.unit.now rows first (set now c.from-place.result new) c.combine_row.new.changed) next
          (subst (λ i. IsCombinedTo c.args.col c.args.unit.now rows first (set now i new) c.combine_row.new.changed (k + 1)) (sym c.from-place.ensures)
          (made_one c.args.col c.args.unit.now rows first now c.loop-number.changed c.combine_row.new.changed new k within (made.0 ∙ ap (combine c.args.col c.args.unit.now) row_is)
          (subst (λ (x : List Fraction). large_number size_limit (combine c.args.col c.args.unit.now x) ≡ None) row_is made.1)
          (λ e. ap (λ xs. at xs c.args.col) (sym row_is) ∙ c.in_ok-combine_row.ensures.changed (ap (row_bit c.combine_row.new.changed) number_is ∙ e))
          c.in_ok-combine_row.ensures.stays here));
      kept = λ r e. c.in_ok-combine_row.ensures.stays r (inv.kept r e);
    }

pub returns-in_err-combine_row-clause-made : goal.returns-in_err-combine_row-clause-made
returns-in_err-combine_row-clause-made c =
    let rows = c.args.rows.now in
    let inv = c.loop-number.invariant in
    let first = c.args.first in
    let k = c.in-Some.number - first in
    let now = c.loop-number.rows in
    let found : IsFirst c.args.touched.now c.loop-number.walk.from (first + length rows) c.in-Some.number = subst (λ ws. IsFirst ws c.loop-number.walk.from (first + length rows) c.in-Some.number) inv.same c.in-Some.ensures.next.0 in
    let within : k < length rows = omega (arith, found.before, found.not_below, inv.low) in
    let number_is : c.in-Some.number ≡ first + k = omega (arith, found.not_below, inv.low) in
    let here : IsCombinedTo c.args.col c.args.unit.now rows first now c.loop-number.changed k =
    passed c.args.col c.args.unit.now rows first c.requires.widths c.none_is_large.ensures now c.loop-number.changed (c.loop-number.walk.from - first) k (omega (arith, found.not_below)) (omega (arith, within)) (λ j low high. c.requires.noughts j (omega (arith, high, within)) (found.none (first + j) (omega (arith, low)) (omega (arith, high, number_is)))) inv.made in
    let row_is : get_or now c.from-place.result c.index-rows-place.result ≡ get_or rows k [] = sym c.index-rows-place.is ∙ get_or_read now c.from-place.result c.index-rows-place.result (omega arith) c.index-rows-place.is [] ∙ ap (λ i. get_or now i []) c.from-place.ensures ∙ next_row c.args.col c.args.unit.now rows first now c.loop-number.changed k within here in
    let p = err_from_is_err_and c.from_residual.result c.from_residual.ensures.1 in
    rw (p.1, p.2)
    (fault_at size_limit (combine c.args.col c.args.unit.now) rows c.in_err-combine_row.field-0.0 k within here.small
    (subst (λ (x : List Fraction). IsFault c.in_err-combine_row.field-0.0 (large_number size_limit (combine c.args.col c.args.unit.now x))) row_is c.in_err-combine_row.ensures.made))

pub returns-clause-made : goal.returns-clause-made
returns-clause-made c =
    let rows = c.args.rows.now in
    let inv = c.loop-number.invariant in
    let first = c.args.first in
    let none : HasNone c.args.touched.now c.loop-number.walk.from (first + length rows) = subst (λ ws. HasNone ws c.loop-number.walk.from (first + length rows)) inv.same c.in_default.ensures.next in
    all_made c.args.col c.args.unit.now rows first c.loop-number.rows c.loop-number.changed
    (passed c.args.col c.args.unit.now rows first c.requires.widths c.none_is_large.ensures c.loop-number.rows c.loop-number.changed (c.loop-number.walk.from - first) (length rows) (omega (arith, inv.high)) (omega arith) (λ j low high. c.requires.noughts j high (none (first + j) (omega (arith, low)) (omega (arith, high)))) inv.made)

pub returns-clause-changed : goal.returns-clause-changed
returns-clause-changed c =
    let rows = c.args.rows.now in
    let inv = c.loop-number.invariant in
    let first = c.args.first in
    let none : HasNone c.args.touched.now c.loop-number.walk.from (first + length rows) = subst (λ ws. HasNone ws c.loop-number.walk.from (first + length rows)) inv.same c.in_default.ensures.next in
    let all : IsCombinedTo c.args.col c.args.unit.now rows first c.loop-number.rows c.loop-number.changed (length rows) =
    passed c.args.col c.args.unit.now rows first c.requires.widths c.none_is_large.ensures c.loop-number.rows c.loop-number.changed (c.loop-number.walk.from - first) (length rows) (omega (arith, inv.high)) (omega arith) (λ j low high. c.requires.noughts j high (none (first + j) (omega (arith, low)) (omega (arith, high)))) inv.made in
    all.noted
