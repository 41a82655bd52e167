-- An entry has the sign of its number.
use Rattle.std.proofs.Common.{ap, ◌∙◌, pos, get_or}
use Rattle.std.specs.Int.RustNames.{int_lt}
use Rattle.nrm_fraction.proofs.Sizes.{small_same}
use Rattle.nrm_row.proofs.Entries.{positive_over}
use Rattle.nrm_row.proofs.row.Row.is_positive.Goals as goal

pub returns : goal.returns
returns c =
    ap (λ z. int_lt (pos 0) z) (small_same c.number.result c.number.ensures.small ∙ c.number.ensures.value ∙ ap (λ ns. get_or ns c.args.col (pos 0)) c.deref.ensures.value)
    ∙ positive_over c.self.inside.den c.self.inside.nums.items c.args.self.now c.args.col c.self.invariant.row.positive c.self.view_is c.requires
