-- An entry is 0 where its number is.
use Rattle.std.proofs.Common.{rules, tests, arith, ◌≡◌, ◌↔◌, ◌∙◌, IsTrue, nat_eq, ap, sym, ℕ, pos, get_or, of_z, w64}
use mir.Val.{SFits}
use Rattle.nrm_row.proofs.Bits.{zero_from_bits}
use Rattle.nrm_row.proofs.Entries.{nought_entry, nought_number}
use Rattle.nrm_row.proofs.row.Row.is_nought.Goals as goal

is_zero : (n : ℕ) → IsTrue (nat_eq n 0) ↔ (n ≡ 0)
is_zero n = grind (arith, tests)

pub returns : goal.returns
returns c =
    let ns = c.self.inside.nums.items in
    let d = c.self.inside.den in
    let positive = c.self.invariant.row.positive in
    let fits : SFits w64 c.number.result = search rules in
    let here : c.number.result ≡ get_or ns c.args.col (pos 0) = c.number.ensures.value ∙ ap (λ ms. get_or ms c.args.col (pos 0)) c.deref.ensures.value in (
      λ test. nought_entry d ns c.args.self.now c.args.col positive c.self.view_is (sym here ∙ zero_from_bits c.number.result fits ((is_zero (of_z w64 c.number.result)).0 test)),
      λ nought. (is_zero (of_z w64 c.number.result)).1 (ap (of_z w64) (here ∙ nought_number d ns c.args.self.now c.args.col positive c.self.view_is c.requires nought)),
    )
