-- Where two numbers differ, they decide.
use Rattle.std.proofs.Common.{rules, ◌≡◌, ap, ap₂, sym, ◌∙◌, get_or, pos, ◌*ℤ◌, of_z, to_z-of_z, w64}
use mir.Syntax.{w128}
use mir.Val.{SFits}
use Rattle.std.specs.Int.RustNames.{int_lt}
use Rattle.nrm_row.specs.Inner.Crossed.{crossed_below}
use Rattle.nrm_row.proofs.RatioLaws.{first_differs}
use Rattle.nrm_row.proofs.ratios.ratio_below.Goals as goal

pub returns-then-left-right : goal.returns-then-left-right
returns-then-left-right c = λ cols.
    let fx : SFits w64 (get_or c.args.xs.now c.args.col (pos 0)) = search rules in
    let fy : SFits w64 (get_or c.args.ys.now c.args.col (pos 0)) = search rules in
    let left : c.product-left.result ≡ get_or c.args.xs.now c.args.col (pos 0) *ℤ c.args.q = c.product-left.ensures.value ∙ ap₂ (λ x q. x *ℤ q) (to_z-of_z fx) (to_z-of_z c.ranges.q) in
    let right : c.product-right.result ≡ get_or c.args.ys.now c.args.col (pos 0) *ℤ c.args.p = c.product-right.ensures.value ∙ ap₂ (λ y p. y *ℤ p) (to_z-of_z fy) (to_z-of_z c.ranges.p) in
    let fl : SFits w128 c.product-left.result = search rules in
    let fr : SFits w128 c.product-right.result = search rules in
    first_differs (get_or c.args.xs.now c.args.col (pos 0) *ℤ c.args.q) (get_or c.args.ys.now c.args.col (pos 0) *ℤ c.args.p) (crossed_below c.args.p c.args.q c.args.xs.now c.args.ys.now cols)
    (λ e. c.if-left-right.true (ap (of_z w128) (left ∙ e ∙ sym right)))
    ∙ sym (ap₂ int_lt (to_z-of_z fl ∙ left) (to_z-of_z fr ∙ right))
