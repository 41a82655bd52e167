use Rattle.std.proofs.Common.{◌≡◌, ◌<◌, ◌++◌, ◌∙◌, length, length-append, arith, sym, ap, subst, to_z-of_z}
use Rattle.nrm_number.proofs.GcdLaws.{gcd_pos}
use Rattle.nrm_fraction.specs.Fraction.{◌over◌}
use Rattle.nrm_text.specs.Fractions.{fraction_text}
use Rattle.nrm_text.proofs.Fractions.{over_pieces, over_length}
use Rattle.nrm_text.proofs.line.Text.push_fraction.Given.{Over}
use Rattle.nrm_text.proofs.line.Text.push_fraction.Goals as goal

pub nonzero_div-size : goal.nonzero_div-size
nonzero_div-size g c = subst (λ g. 0 < g) (sym c.gcd-shared.ensures.value) (gcd_pos c.unsigned_abs-size.result c.args.den c.requires.den)

pub nonzero_div-den : goal.nonzero_div-den
nonzero_div-den g c = subst (λ g. 0 < g) (sym c.gcd-shared.ensures.value) (gcd_pos c.unsigned_abs-size.result c.args.den c.requires.den)

pub push_parts-requires : goal.push_parts-requires
push_parts-requires g c =
    let whole = over_length c.args.num _ c.args.den c.unsigned_abs-size.result c.gcd-shared.result (to_z-of_z c.ranges.num) c.requires.den c.unsigned_abs-size.ensures.value c.gcd-shared.ensures.value in
    omega (arith, whole, c.requires.room)

text : (g : Over) (c : goal.After-push_parts g) → c.push_parts.new.self ≡ c.args.self.now ++ fraction_text (c.args.num over c.args.den)
text g c =
    let whole = over_pieces c.args.num _ c.args.den c.unsigned_abs-size.result c.gcd-shared.result (to_z-of_z c.ranges.num) c.requires.den c.unsigned_abs-size.ensures.value c.gcd-shared.ensures.value in
    c.push_parts.ensures ∙ ap (λ t. c.args.self.now ++ t) (sym whole)

pub returns-clause-text : goal.returns-clause-text
returns-clause-text g c = text g c

pub returns-clause-length : goal.returns-clause-length
returns-clause-length g c = ap length (text g c) ∙ length-append c.args.self.now (fraction_text (c.args.num over c.args.den))
