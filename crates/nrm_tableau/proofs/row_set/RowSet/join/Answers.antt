-- All words are joined.
use Rattle.std.proofs.Common.{◌≡◌, arith, subst}
use Rattle.nrm_tableau.specs.RowSets.{row_bit}
use Rattle.nrm_tableau.proofs.RowBits.{IsJoinedTo, joined_bits}
use Rattle.nrm_tableau.proofs.row_set.RowSet.join.Goals as goal

pub returns : goal.returns
returns c = λ r nought.
    let all : c.loop-i.i ≡ 5 = omega (arith, c.loop-i-test.false) in
    let done = subst (IsJoinedTo c.self.inside.words c.other.inside.words c.loop-i.self-inside.words) all c.loop-i.invariant in
    let both = joined_bits c.self.inside.words c.other.inside.words c.loop-i.self-inside.words c.self.invariant c.other.invariant done r nought in (
      subst (λ ws. row_bit ws r ≡ 0) c.self.view_is both.0,
      subst (λ ws. row_bit ws r ≡ 0) c.other.view_is both.1,
    )
