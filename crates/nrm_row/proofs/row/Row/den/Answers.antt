-- The denominator divided by the common divisor is the least common denominator.
use Rattle.std.proofs.Common.{rules, ◌≡◌, ap₂, ◌∙◌, pos, unsigned_abs, to_z, of_z, to_z-of_z, w64}
use mir.Val.{SFits}
use Rattle.nrm_number.specs.Gcd.{shrink}
use Rattle.nrm_fraction.specs.Large.{gcd_all}
use Rattle.nrm_fraction.proofs.Sizes.{small_same}
use Rattle.nrm_row.proofs.LowestTerms.{row_den}
use Rattle.nrm_row.proofs.row.Row.den.Goals as goal

pub returns-clause-den : goal.returns-clause-den
returns-clause-den c =
    let d = c.self.inside.den in
    let row = c.self.invariant.row in
    let f : SFits w64 c.divisor.result = search rules in
    let fq : SFits w64 c.quotient.result = search rules in
    let common : to_z w64 (of_z w64 c.divisor.result) ≡ pos (gcd_all (unsigned_abs d) c.self.inside.nums.items) = to_z-of_z f ∙ c.divisor.ensures.value ∙ ap₂ (λ e ms. pos (gcd_all (unsigned_abs e) ms)) (small_same d row.small) c.deref.ensures.value in
    to_z-of_z fq ∙ c.quotient.ensures ∙ ap₂ (λ e g. shrink e (unsigned_abs g)) (small_same d row.small) common ∙ row_den d c.self.inside.nums.items c.args.self.now row c.self.view_is
