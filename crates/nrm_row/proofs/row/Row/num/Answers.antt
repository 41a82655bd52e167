-- The number divided by the common divisor is that over the least common denominator.
use Rattle.std.proofs.Common.{rules, arith, ◌≡◌, ◌<◌, ap, ap₂, sym, ◌∙◌, pos, unsigned_abs, length, get_or, to_z, of_z, to_z-of_z, w64}
use Rattle.std.proofs.lemmas.List.{get_or-map}
use mir.Val.{SFits}
use Rattle.nrm_number.specs.Gcd.{shrink}
use Rattle.nrm_fraction.specs.Large.{gcd_all}
use Rattle.nrm_fraction.proofs.Sizes.{small_same}
use Rattle.nrm_row.proofs.LowestTerms.{row_nums, row_length}
use Rattle.nrm_row.proofs.row.Row.num.Goals as goal

pub returns-clause-num : goal.returns-clause-num
returns-clause-num c =
    let ns = c.self.inside.nums.items in
    let d = c.self.inside.den in
    let row = c.self.invariant.row in
    let f : SFits w64 c.divisor.result = search rules in
    let fq : SFits w64 c.quotient.result = search rules in
    let common : to_z w64 (of_z w64 c.divisor.result) ≡ pos (gcd_all (unsigned_abs d) ns) = to_z-of_z f ∙ c.divisor.ensures.value ∙ ap₂ (λ e ms. pos (gcd_all (unsigned_abs e) ms)) (small_same d row.small) c.deref-2.ensures.value in
    let here : to_z w64 (of_z w64 c.number.result) ≡ get_or ns c.args.col (pos 0) = small_same c.number.result c.number.ensures.small ∙ c.number.ensures.value ∙ ap (λ ms. get_or ms c.args.col (pos 0)) c.deref.ensures.value in
    let within : c.args.col < length ns = omega (arith, c.requires, row_length d ns c.args.self.now c.self.view_is) in
    to_z-of_z fq ∙ c.quotient.ensures ∙ ap₂ (λ x g. shrink x (unsigned_abs g)) here common
    ∙ sym (get_or-map (λ n. shrink n (gcd_all (unsigned_abs d) ns)) ns c.args.col (pos 0) (pos 0) within)
    ∙ ap (λ ms. get_or ms c.args.col (pos 0)) (sym (row_nums d ns c.args.self.now row c.self.view_is))
