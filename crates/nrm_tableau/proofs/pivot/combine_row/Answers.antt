-- A row with a 0 in the column stays as it is.
use Rattle.std.proofs.Common.{◌≡◌, ◌∙◌, ap, refl, sym}
use Rattle.nrm_fraction.specs.Large.{large_number, size_limit}
use Rattle.nrm_fraction.specs.Rows.{combine}
use Rattle.nrm_tableau.proofs.Sets.{uncombined}
use Rattle.nrm_tableau.proofs.pivot.combine_row.Goals as goal

pub returns-then-is_nought-clause-made : goal.returns-then-is_nought-clause-made
returns-then-is_nought-clause-made c =
    let same : combine c.args.col c.args.unit.now c.args.row.now ≡ c.args.row.now = uncombined c.args.col c.args.unit.now c.args.row.now c.requires.width (c.if-is_nought.ensures.0 refl) in
    (sym same, ap (large_number size_limit) same ∙ c.never_large.ensures)
