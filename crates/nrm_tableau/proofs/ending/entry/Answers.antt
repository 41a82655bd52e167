-- The number and the denominator are read as sizes.
use Rattle.std.proofs.Common.{◌<◌, ◌∙◌, ap, sym, subst, nat_abs}
use Rattle.nrm_fraction.proofs.Lowest.{common_pos}
use Rattle.nrm_tableau.proofs.LastRows.{entry_read}
use Rattle.nrm_fraction.proofs.Sizes.{small_same}
use Rattle.nrm_tableau.proofs.ending.entry.Goals as goal

pub new-requires-clause-some : goal.new-requires-clause-some
new-requires-clause-some c = subst (λ n. 0 < n) (sym (c.unsigned_abs.ensures.value ∙ ap nat_abs (small_same c.den.result c.den.ensures.small ∙ c.den.ensures.den))) (common_pos c.args.row.now)

pub returns : goal.returns
returns c =
    c.new.ensures
    ∙ entry_read c.args.row.now c.args.col c.from.result c.unsigned_abs.result c.requires.within c.requires.sign
    (c.from.ensures ∙ c.unsigned_abs-num.ensures.value ∙ ap nat_abs (small_same c.num.result c.num.ensures.small ∙ c.num.ensures.num))
    (c.unsigned_abs.ensures.value ∙ ap nat_abs (small_same c.den.result c.den.ensures.small ∙ c.den.ensures.den))
