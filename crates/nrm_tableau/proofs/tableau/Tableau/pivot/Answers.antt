-- The rows, the value row and the sets become those of the pivot, or the first number that is too large is theirs.
use Rattle.std.proofs.Common.{◌≡◌, ◌<◌, ◌∙◌, ap, arith, [], set, get_or, length}
use Rattle.std.proofs.lemmas.List.{get_or_read}
use Rattle.std.proofs.lemmas.Result.{err_from_is_err_and}
use Rattle.nrm_tableau.proofs.Pivots.{basis_within, before_end, fault_others, fault_value, next_kept, next_seen, read_before, read_noughts, read_others_fault, read_others_small, read_positive, read_unit, read_unit_small, read_value_fault, read_value_small, read_widths, read_within, row_limit, rows_made, sets_made, small_all, unit_before, unit_width, value_before, value_made, within}
use Rattle.nrm_tableau.proofs.Sets.{IsSpreadTo}
use Rattle.nrm_tableau.proofs.tableau.Tableau.pivot.Goals as goal

pub index-touched-requires : goal.index-touched-requires
index-touched-requires c = omega (arith, c.from.ensures, before_end c.self.view_is c.self.invariant.path c.args.col c.args.row c.requires.enters c.requires.leaves, c.self.invariant.covers.count, c.self.inside.sets.ok.0)

pub pivot_row-requires-clause-within : goal.pivot_row-requires-clause-within
pivot_row-requires-clause-within c = read_within c.self.view_is c.self.invariant.path c.args.col c.args.row c.requires.enters c.requires.leaves c.deref.result.now c.deref.ensures.value

pub pivot_row-requires-clause-before : goal.pivot_row-requires-clause-before
pivot_row-requires-clause-before c = read_before c.self.view_is c.self.invariant.path c.args.col c.args.row c.requires.enters c.requires.leaves c.deref.result.now c.deref.ensures.value

pub pivot_row-requires-clause-positive : goal.pivot_row-requires-clause-positive
pivot_row-requires-clause-positive c = read_positive c.self.view_is c.self.invariant.path c.args.col c.args.row c.requires.enters c.requires.leaves c.deref.result.now c.deref.ensures.value

pub combine_others-requires-clause-within : goal.combine_others-requires-clause-within
combine_others-requires-clause-within c = read_within c.self.view_is c.self.invariant.path c.args.col c.args.row c.requires.enters c.requires.leaves c.deref_mut.result.now c.deref_mut.ensures.value

pub combine_others-requires-clause-most : goal.combine_others-requires-clause-most
combine_others-requires-clause-most c = omega (arith, row_limit c.self.view_is c.self.invariant.path c.args.col c.args.row c.requires.enters c.requires.leaves, ap length c.deref_mut.ensures.value)

pub combine_others-requires-clause-before : goal.combine_others-requires-clause-before
combine_others-requires-clause-before c =
    let unit = read_unit c.self.view_is c.self.invariant.path c.args.col c.args.row c.requires.enters c.requires.leaves c.deref.result.now c.deref.ensures.value c.in_ok-unit.unit c.in_ok-unit.ensures.row in
    unit_before c.self.view_is c.self.invariant.path c.args.col c.args.row c.requires.enters c.requires.leaves c.in_ok-unit.unit unit

pub combine_others-requires-clause-widths : goal.combine_others-requires-clause-widths
combine_others-requires-clause-widths c =
    let unit = read_unit c.self.view_is c.self.invariant.path c.args.col c.args.row c.requires.enters c.requires.leaves c.deref.result.now c.deref.ensures.value c.in_ok-unit.unit c.in_ok-unit.ensures.row in
    read_widths c.self.view_is c.self.invariant.path c.args.col c.args.row c.requires.enters c.requires.leaves c.deref_mut.result.now c.deref_mut.ensures.value c.in_ok-unit.unit unit

pub combine_others-requires-clause-noughts : goal.combine_others-requires-clause-noughts
combine_others-requires-clause-noughts c =
    let sets = c.self.inside.sets.items in
    let within : c.from.result < length sets = omega (arith, c.from.ensures, before_end c.self.view_is c.self.invariant.path c.args.col c.args.row c.requires.enters c.requires.leaves, c.self.invariant.covers.count) in
    let touched : c.index-touched.result.now ≡ get_or sets c.args.col [] = get_or_read sets c.from.result c.index-touched.result.now within c.index-touched.ensures [] ∙ ap (λ k. get_or sets k []) c.from.ensures in
    read_noughts c.self.view_is c.self.invariant.path c.args.col c.args.row c.requires.enters c.requires.leaves c.deref_mut.result.now c.deref_mut.ensures.value sets c.index-touched.result.now touched c.self.invariant.covers

pub returns-in_err-combine_others-clause-fault : goal.returns-in_err-combine_others-clause-fault
returns-in_err-combine_others-clause-fault c =
    let unit = read_unit c.self.view_is c.self.invariant.path c.args.col c.args.row c.requires.enters c.requires.leaves c.deref.result.now c.deref.ensures.value c.in_ok-unit.unit c.in_ok-unit.ensures.row in
    let p = err_from_is_err_and c.from_residual-in_err-combine_others.result c.from_residual-in_err-combine_others.ensures.1 in
    rw (p.1, p.2)
    (fault_others c.self.view_is c.self.invariant.path c.args.col c.args.row c.requires.enters c.requires.leaves c.in_err-combine_others.field-0.0
    (read_unit_small c.self.view_is c.self.invariant.path c.args.col c.args.row c.requires.enters c.requires.leaves c.deref.result.now c.deref.ensures.value c.in_ok-unit.ensures.small)
    (read_others_fault c.self.view_is c.self.invariant.path c.args.col c.args.row c.requires.enters c.requires.leaves c.deref_mut.result.now c.deref_mut.ensures.value c.in_ok-unit.unit unit c.in_err-combine_others.field-0.0 c.in_err-combine_others.ensures.made))

pub combine-requires-clause-widths : goal.combine-requires-clause-widths
combine-requires-clause-widths c =
    let unit = read_unit c.self.view_is c.self.invariant.path c.args.col c.args.row c.requires.enters c.requires.leaves c.deref.result.now c.deref.ensures.value c.in_ok-unit.unit c.in_ok-unit.ensures.row in
    unit_width c.self.view_is c.self.invariant.path c.args.col c.args.row c.requires.enters c.requires.leaves c.in_ok-unit.unit unit

pub combine-requires-clause-within : goal.combine-requires-clause-within
combine-requires-clause-within c = value_before c.self.view_is c.self.invariant.path c.args.col c.args.row c.requires.enters c.requires.leaves

pub returns-in_err-combine-clause-fault : goal.returns-in_err-combine-clause-fault
returns-in_err-combine-clause-fault c =
    let unit = read_unit c.self.view_is c.self.invariant.path c.args.col c.args.row c.requires.enters c.requires.leaves c.deref.result.now c.deref.ensures.value c.in_ok-unit.unit c.in_ok-unit.ensures.row in
    let p = err_from_is_err_and c.from_residual-in_err-combine.result c.from_residual-in_err-combine.ensures.1 in
    rw (p.1, p.2)
    (fault_value c.self.view_is c.self.invariant.path c.args.col c.args.row c.requires.enters c.requires.leaves c.in_err-combine.field-0.0
    (read_unit_small c.self.view_is c.self.invariant.path c.args.col c.args.row c.requires.enters c.requires.leaves c.deref.result.now c.deref.ensures.value c.in_ok-unit.ensures.small)
    (read_others_small c.self.view_is c.self.invariant.path c.args.col c.args.row c.requires.enters c.requires.leaves c.deref_mut.result.now c.deref_mut.ensures.value c.in_ok-unit.unit unit c.in_ok-combine_others.ensures.made.1)
    (read_value_fault c.self.view_is c.self.invariant.path c.args.col c.args.row c.requires.enters c.requires.leaves c.in_ok-unit.unit unit c.in_err-combine.field-0.0 c.in_err-combine.ensures.row))

pub of-changed-requires : goal.of-changed-requires
of-changed-requires c = omega (arith, within c.self.view_is c.self.invariant.path c.args.col c.args.row c.requires.enters c.requires.leaves, row_limit c.self.view_is c.self.invariant.path c.args.col c.args.row c.requires.enters c.requires.leaves)

pub of-requires : goal.of-requires
of-requires c = omega (arith, within c.self.view_is c.self.invariant.path c.args.col c.args.row c.requires.enters c.requires.leaves, row_limit c.self.view_is c.self.invariant.path c.args.col c.args.row c.requires.enters c.requires.leaves)

pub index_mut-requires : goal.index_mut-requires
index_mut-requires c = omega (arith, c.from-2.ensures, before_end c.self.view_is c.self.invariant.path c.args.col c.args.row c.requires.enters c.requires.leaves, c.self.invariant.covers.count, c.self.inside.sets.ok.0)

pub index_mut-requires-2 : goal.index_mut-requires-2
index_mut-requires-2 c = omega (arith, within c.self.view_is c.self.invariant.path c.args.col c.args.row c.requires.enters c.requires.leaves, c.from-place.ensures, c.self.inside.rows.ok.0)

pub index_mut-requires-3 : goal.index_mut-requires-3
index_mut-requires-3 c = omega (arith, basis_within c.self.view_is c.self.invariant.path c.args.col c.args.row c.requires.enters c.requires.leaves, c.from-place.ensures, c.self.inside.basis.ok.0)

pub returns-clause-small : goal.returns-clause-small
returns-clause-small c =
    let unit = read_unit c.self.view_is c.self.invariant.path c.args.col c.args.row c.requires.enters c.requires.leaves c.deref.result.now c.deref.ensures.value c.in_ok-unit.unit c.in_ok-unit.ensures.row in
    small_all c.self.view_is c.self.invariant.path c.args.col c.args.row c.requires.enters c.requires.leaves
    (read_unit_small c.self.view_is c.self.invariant.path c.args.col c.args.row c.requires.enters c.requires.leaves c.deref.result.now c.deref.ensures.value c.in_ok-unit.ensures.small)
    (read_others_small c.self.view_is c.self.invariant.path c.args.col c.args.row c.requires.enters c.requires.leaves c.deref_mut.result.now c.deref_mut.ensures.value c.in_ok-unit.unit unit c.in_ok-combine_others.ensures.made.1)
    (read_value_small c.self.view_is c.self.invariant.path c.args.col c.args.row c.requires.enters c.requires.leaves c.in_ok-unit.unit unit c.in_ok-combine.ensures.row.1)

pub invariant_of-result : goal.invariant_of-result
invariant_of-result c =
    let sets = c.self.inside.sets.items in
    let unit = read_unit c.self.view_is c.self.invariant.path c.args.col c.args.row c.requires.enters c.requires.leaves c.deref.result.now c.deref.ensures.value c.in_ok-unit.unit c.in_ok-unit.ensures.row in
    let rows_are = rows_made c.self.view_is c.self.invariant.path c.args.col c.args.row c.requires.enters c.requires.leaves c.deref_mut.result.now c.deref_mut.ensures.value c.in_ok-unit.unit unit c.combine_others.new.rows c.into_row.result c.self.inside.rows.len c.from-place.result c.self.inside.rows.ok.0 c.from-place.ensures c.in_ok-combine_others.ensures.made.0 c.into_row.ensures in
    let value_is = value_made c.self.view_is c.self.invariant.path c.args.col c.args.row c.requires.enters c.requires.leaves c.in_ok-unit.unit unit c.combine.new.self c.in_ok-combine.ensures.row.0 in
    let basis_is = ap (λ k. set c.self.inside.basis.items k c.args.col) c.from-place.ensures in
    let small = small_all c.self.view_is c.self.invariant.path c.args.col c.args.row c.requires.enters c.requires.leaves
    (read_unit_small c.self.view_is c.self.invariant.path c.args.col c.args.row c.requires.enters c.requires.leaves c.deref.result.now c.deref.ensures.value c.in_ok-unit.ensures.small)
    (read_others_small c.self.view_is c.self.invariant.path c.args.col c.args.row c.requires.enters c.requires.leaves c.deref_mut.result.now c.deref_mut.ensures.value c.in_ok-unit.unit unit c.in_ok-combine_others.ensures.made.1)
    (read_value_small c.self.view_is c.self.invariant.path c.args.col c.args.row c.requires.enters c.requires.leaves c.in_ok-unit.unit unit c.in_ok-combine.ensures.row.1) in
    let spread : IsSpreadTo c.deref_mut-2.result.now c.spread.new.sets c.combine_others.new.changed c.entries.result.now = record { long = c.spread.ensures.length; bits = c.spread.ensures.bits } in
    let covers = sets_made c.self.view_is c.self.invariant.path c.args.col c.args.row c.requires.enters c.requires.leaves small sets c.deref_mut-2.result.now c.spread.new.sets c.deref_mut.result.now c.combine_others.new.changed c.of.result c.entries.result.now c.in_ok-unit.unit c.self.inside.sets.len c.from-2.result c.self.invariant.covers c.deref_mut-2.ensures.value c.deref_mut.ensures.value spread c.in_ok-combine_others.ensures.changed c.of.ensures unit c.entries.ensures.noughts c.self.inside.sets.ok.0 c.from-2.ensures in
    next_kept c.self.view_is c.self.invariant.path c.args.col c.args.row c.requires.enters c.requires.leaves small _ _ _ _ rows_are value_is basis_is covers

pub returns-clause-next : goal.returns-clause-next
returns-clause-next c =
    let unit = read_unit c.self.view_is c.self.invariant.path c.args.col c.args.row c.requires.enters c.requires.leaves c.deref.result.now c.deref.ensures.value c.in_ok-unit.unit c.in_ok-unit.ensures.row in
    let rows_are = rows_made c.self.view_is c.self.invariant.path c.args.col c.args.row c.requires.enters c.requires.leaves c.deref_mut.result.now c.deref_mut.ensures.value c.in_ok-unit.unit unit c.combine_others.new.rows c.into_row.result c.self.inside.rows.len c.from-place.result c.self.inside.rows.ok.0 c.from-place.ensures c.in_ok-combine_others.ensures.made.0 c.into_row.ensures in
    let value_is = value_made c.self.view_is c.self.invariant.path c.args.col c.args.row c.requires.enters c.requires.leaves c.in_ok-unit.unit unit c.combine.new.self c.in_ok-combine.ensures.row.0 in
    let basis_is = ap (λ k. set c.self.inside.basis.items k c.args.col) c.from-place.ensures in
    next_seen c.self.view_is c.self.invariant.path c.args.col c.args.row c.requires.enters c.requires.leaves _ _ _ rows_are value_is basis_is
