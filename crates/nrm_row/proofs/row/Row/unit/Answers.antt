-- The numbers over the one at the column are the row divided by its entry.
use Rattle.std.proofs.Common.{◌≡◌, get_or, pos, unsigned_abs, ap, ap₂, sym, subst, subst₂, ◌∙◌, IfOk, to_z, of_z, w64}
use Rattle.nrm_fraction.specs.Large.{fractions}
use Rattle.nrm_fraction.proofs.Sizes.{small_same}
use Rattle.nrm_row.specs.Numbers.{IsRow}
use Rattle.nrm_row.proofs.Entries.{unit_is_row, unit_row_is, unit_small}
use Rattle.nrm_row.proofs.row.Row.unit.Goals as goal
use Rattle.nrm_row.proofs.row.Row.unit.Goals.{After-number}

number : (c : After-number) → to_z w64 (of_z w64 c.number.result) ≡ get_or c.self.inside.nums.items c.args.col (pos 0)
number c = small_same c.number.result c.number.ensures.small ∙ c.number.ensures.value ∙ ap (λ ns. get_or ns c.args.col (pos 0)) c.deref.ensures.value

pub unit_of-requires : goal.unit_of-requires
unit_of-requires c =
    subst₂ (λ d ns. IsRow d ns) (sym (number (goal.at.unit_of-requires c).After-number)) (sym c.deref-2.ensures.value)
    (unit_is_row c.self.inside.den c.self.inside.nums.items c.args.self.now c.args.col c.self.invariant.row c.self.view_is c.requires.within c.requires.positive)

pub returns-clause-row : goal.returns-clause-row
returns-clause-row c =
    subst (λ target. IfOk c.unit_of.result (λ row. row ≡ target))
    (ap₂ (λ d ns. fractions (unsigned_abs d) ns) (number (goal.at.returns-clause-row c).After-number) c.deref-2.ensures.value
    ∙ unit_row_is c.self.inside.den c.self.inside.nums.items c.args.self.now c.args.col c.self.invariant.row c.self.view_is c.requires.within c.requires.positive)
    c.unit_of.ensures

pub returns-clause-small : goal.returns-clause-small
returns-clause-small c = unit_small c.self.inside.den c.self.inside.nums.items c.args.self.now c.args.col c.self.invariant.row c.self.view_is c.requires.within c.requires.positive
