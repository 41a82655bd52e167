-- An entry has the sign of its number.
use Rattle.std.proofs.Common.{ap, ◌∙◌, pos, get_or}
use Rattle.std.specs.Int.RustNames.{int_lt}
use Rattle.nrm_fraction.proofs.Sizes.{small_same}
use Rattle.nrm_row.proofs.Entries.{negative_over}
use Rattle.nrm_row.proofs.row.Row.is_negative.Goals as goal

pub returns : goal.returns
returns c =
    ap (λ z. int_lt z (pos 0)) (small_same c.number.result c.number.ensures.small ∙ c.number.ensures.value ∙ ap (λ ns. get_or ns c.args.col (pos 0)) c.deref.ensures.value)
    ∙ negative_over c.self.inside.den c.self.inside.nums.items c.args.self.now c.args.col c.self.invariant.row.positive c.self.view_is c.requires
