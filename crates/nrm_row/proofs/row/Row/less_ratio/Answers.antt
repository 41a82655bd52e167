-- The numbers compare as the ratios do.
use Rattle.std.proofs.Common.{length, get_or, pos, ◌∙◌}
use Rattle.nrm_fraction.specs.Rows.{ratio_columns}
use Rattle.nrm_row.specs.Inner.Crossed.{crossed_below}
use Rattle.nrm_row.proofs.Entries.{ratios_below_is}
use Rattle.nrm_row.proofs.row.Row.less_ratio.Goals as goal

pub returns : goal.returns
returns c =
    c.ratios_below.ensures
    ∙ (λ i. crossed_below (get_or (c.deref.ensures.value i) (c.from.ensures i) (pos 0)) (get_or (c.deref-2.ensures.value i) (c.from.ensures i) (pos 0)) (c.deref.ensures.value i) (c.deref-2.ensures.value i) (ratio_columns (c.from-2.ensures i) (length (c.deref.ensures.value i))))
    ∙ ratios_below_is c.self.inside.den c.other.inside.den c.self.inside.nums.items c.other.inside.nums.items c.args.self.now c.args.other.now c.args.col c.args.from c.self.invariant.row.positive c.other.invariant.row.positive c.self.view_is c.other.view_is c.requires.widths c.requires.within c.requires.from_within c.requires.positive c.requires.other_positive
