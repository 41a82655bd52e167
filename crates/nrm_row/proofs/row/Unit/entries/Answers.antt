-- A column that is not listed has a 0.
use Rattle.std.proofs.Common.{◌<◌, ◌∙◌, ap, sym, subst, length, All, ℕ, ℤ}
use Rattle.nrm_fraction.specs.Rows.{number_at}
use Rattle.nrm_row.proofs.Entries.{nought_entry}
use Rattle.nrm_row.proofs.InPlace.{listed_within}
use Rattle.nrm_row.proofs.LowestTerms.{row_length}
use Rattle.nrm_row.proofs.row.Unit.entries.Goals as goal

pub returns-clause-within : goal.returns-clause-within
returns-clause-within c =
    let u = c.self.inside in
    subst (All (λ (e : ℕ × ℤ). e.0 < length c.args.self.now)) (sym c.as_slice.ensures.value)
    (listed_within u.nums.items u.entries.items (length c.args.self.now) (sym (row_length u.den u.nums.items c.args.self.now c.self.view_is)) c.self.invariant.lists)

pub returns-clause-noughts : goal.returns-clause-noughts
returns-clause-noughts c = λ col nought.
    let u = c.self.inside in
    nought_entry u.den u.nums.items c.args.self.now col c.self.invariant.sound.row.positive c.self.view_is
    (sym (c.self.invariant.lists.same col) ∙ ap (λ es. number_at es col) (sym c.as_slice.ensures.value) ∙ nought)
