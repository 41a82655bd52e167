-- The fractions of some columns are those columns of the fractions.
use Rattle.std.proofs.Common.{◌≡◌, ◌+◌, ◌-◌, ap, ap₂, ◌∙◌, arith, unsigned_abs, take, drop}
use Rattle.nrm_fraction.specs.Large.{fractions}
use Rattle.nrm_row.proofs.LowestTerms.{row_part}
use Rattle.nrm_fraction.proofs.Sizes.{small_same}
use Rattle.nrm_row.proofs.row.Row.part.Goals as goal

pub returns : goal.returns
returns c =
    let start = c.from-start.result in
    let width : start + c.from.result - start ≡ c.args.width = omega (arith, c.from.ensures) in
    c.row_over.ensures ∙ ap (λ d. fractions (unsigned_abs d) c.in_ok-den.nums.items) (small_same c.in_ok-den.den c.in_ok-den.ensures.row.small) ∙ c.in_ok-den.ensures.same
    ∙ ap₂ (λ d ns. fractions (unsigned_abs d) (take (start + c.from.result - start) (drop start ns))) (small_same c.self.inside.den c.self.invariant.row.small) c.deref.ensures.value
    ∙ ap₂ (λ n k. fractions (unsigned_abs c.self.inside.den) (take n (drop k c.self.inside.nums.items))) width c.from-start.ensures
    ∙ row_part (unsigned_abs c.self.inside.den) c.self.inside.nums.items c.args.self.now c.args.from c.args.width c.self.view_is
