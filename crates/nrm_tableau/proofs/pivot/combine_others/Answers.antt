-- The rows before the pivot row, and those behind it.
use Rattle.std.proofs.Common.{◌∙◌, ◌≡◌, ◌<◌, ◌+◌, ◌-◌, ℕ, pos, [], arith, inl, inr, get_or, length-take-le, ap, sym, subst, List, map, take, drop, length, None}
use Rattle.std.proofs.lemmas.Bool.{cases_lt}
use Rattle.std.proofs.lemmas.List.{get_or-drop, get_or-take, length-drop}
use Rattle.std.proofs.lemmas.Result.{err_from_is_err_and}
use Rattle.nrm_fraction.specs.Fraction.{Fraction, whole}
use Rattle.nrm_fraction.specs.Large.{first_large, size_limit}
use Rattle.nrm_fraction.specs.Rows.{at, combine}
use Rattle.nrm_fraction.specs.Fault.{IsFault}
use Rattle.nrm_tableau.proofs.Changing.{slice_is, slice_widths, parts_put}
use Rattle.nrm_tableau.proofs.Faults.{behind_is, fault_front, fault_back, small_both, others_are}
use Rattle.nrm_tableau.specs.RowSets.{row_bit}
use Rattle.nrm_tableau.proofs.RowBits.{without}
use Rattle.nrm_tableau.proofs.pivot.combine_others.Goals as goal

pub returns-in_err-combine_each-clause-made : goal.returns-in_err-combine_each-clause-made
returns-in_err-combine_each-clause-made c =
    let rows = c.args.rows.now in
    let F = combine c.args.col c.args.unit.now in
    let at = c.from-at.result in
    let p = err_from_is_err_and c.from_residual.result c.from_residual.ensures.1 in
    rw (p.1, p.2)
    (subst (λ (xs : List (List Fraction)). IsFault c.in_err-combine_each.field-0.0 (first_large size_limit xs)) (others_are F c.args.row at rows c.requires.within c.from-at.ensures)
    (fault_front size_limit c.in_err-combine_each.field-0.0 (map F (take at rows)) (map F (take (length rows - (at + 1)) (drop (at + 1) rows))) c.in_err-combine_each.ensures.made))

pub combine_each-requires-2-clause-widths : goal.combine_each-requires-2-clause-widths
combine_each-requires-2-clause-widths c =
    slice_widths (combine c.args.col c.args.unit.now) c.args.rows.now c.combine_each.new.rows c.args.row c.from-at.result c.from-at.ensures c.requires.within c.in_ok-combine_each.ensures.made.0 (length c.args.unit.now) c.requires.widths

pub returns-in_err-combine_each-2-clause-made : goal.returns-in_err-combine_each-2-clause-made
returns-in_err-combine_each-2-clause-made c =
    let rows = c.args.rows.now in
    let F = combine c.args.col c.args.unit.now in
    let at = c.from-at.result in
    let behind = slice_is F rows c.combine_each.new.rows c.args.row at c.from-at.ensures c.requires.within c.in_ok-combine_each.ensures.made.0 in
    let p = err_from_is_err_and c.from_residual-in_err-combine_each-2.result c.from_residual-in_err-combine_each-2.ensures.1 in
    rw (p.1, p.2)
    (subst (λ (xs : List (List Fraction)). IsFault c.in_err-combine_each-2.field-0.0 (first_large size_limit xs)) (others_are F c.args.row at rows c.requires.within c.from-at.ensures)
    (fault_back size_limit c.in_err-combine_each-2.field-0.0 (map F (take at rows)) (map F (take (length rows - (at + 1)) (drop (at + 1) rows))) c.in_ok-combine_each.ensures.made.1
    (subst (λ (xs : List (List Fraction)). IsFault c.in_err-combine_each-2.field-0.0 (first_large size_limit (map F xs))) behind c.in_err-combine_each-2.ensures.made)))

pub returns-clause-made : goal.returns-clause-made
returns-clause-made c =
    let rows = c.args.rows.now in
    let F = combine c.args.col c.args.unit.now in
    let at = c.from-at.result in
    let behind = slice_is F rows c.combine_each.new.rows c.args.row at c.from-at.ensures c.requires.within c.in_ok-combine_each.ensures.made.0 in (
      parts_put F rows c.combine_each.new.rows c.args.row at c.from-at.ensures c.requires.within c.in_ok-combine_each.ensures.made.0 c.combine_each-2.new.rows c.in_ok-combine_each-2.ensures.made.0,
      ap (first_large size_limit) (sym (others_are F c.args.row at rows c.requires.within c.from-at.ensures))
          ∙ small_both size_limit (map F (take at rows)) (map F (take (length rows - (at + 1)) (drop (at + 1) rows))) c.in_ok-combine_each.ensures.made.1
          (subst (λ (xs : List (List Fraction)). first_large size_limit (map F xs) ≡ None) behind c.in_ok-combine_each-2.ensures.made.1),
    )

-- a row before the pivot row, or behind it, that isn't put in has a 0
pub returns-clause-changed : goal.returns-clause-changed
returns-clause-changed c = λ r l d e.
    let rows = c.args.rows.now in
    let row = c.args.row in
    let F = combine c.args.col c.args.unit.now in
    let front = c.combine_each.new.changed in
    let all = c.combine_each-2.new.changed in
    let slice = slice_is F rows c.combine_each.new.rows row c.from-at.result c.from-at.ensures c.requires.within c.in_ok-combine_each.ensures.made.0 ∙ behind_is row c.from-at.result rows c.from-at.ensures in
    let behind : (k : ℕ) → k < length (drop (row + 1) rows) → row_bit all (row + 1 + k) ≡ 0 → at (get_or (drop (row + 1) rows) k []) c.args.col ≡ whole (pos 0) =
    subst (λ (xs : List (List Fraction)). (k : ℕ) → k < length xs → row_bit all (row + 1 + k) ≡ 0 → at (get_or xs k []) c.args.col ≡ whole (pos 0)) slice c.in_ok-combine_each-2.ensures.changed in
    let here : at (get_or rows r []) c.args.col ≡ whole (pos 0) = elim (cases_lt r c.from-at.result) [
      | inl m ↦
          let same : 0 + r ≡ r = omega arith in
          ap (λ xs. at xs c.args.col) (sym (get_or-take c.from-at.result rows r [] m))
          ∙ c.in_ok-combine_each.ensures.changed r (omega (arith, m, length-take-le c.from-at.result rows (omega (arith, c.from-at.ensures, c.requires.within)))) (ap (row_bit front) same ∙ without front all r c.in_ok-combine_each-2.ensures.stays e)
      | inr m ↦
          let same : row + 1 + (r - (row + 1)) ≡ r = omega (arith, m, d, c.from-at.ensures) in
          ap (λ k. at (get_or rows k []) c.args.col) (sym same)
          ∙ ap (λ xs. at xs c.args.col) (sym (get_or-drop (row + 1) rows (r - (row + 1)) []))
          ∙ behind (r - (row + 1)) (omega (arith, l, m, d, c.from-at.ensures, length-drop (row + 1) rows)) (ap (row_bit all) same ∙ e)
    ] in
    here
