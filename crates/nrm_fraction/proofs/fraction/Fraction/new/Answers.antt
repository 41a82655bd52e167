-- Both numbers over their greatest common divisor are the fraction in lowest terms.
use Rattle.std.proofs.Common.{◌≡◌, ◌<◌, ◌/◌, arith, sym, ap, ap₂, ◌∙◌, subst, pos}
use native.Mathlib.Nat.{div-le_self}
use Rattle.nrm_number.specs.Gcd.{gcd as gcd_of}
use Rattle.nrm_number.proofs.GcdLaws.{gcd_pos, reduced_pos, reduced_lowest}
use Rattle.nrm_fraction.specs.Fraction.{◌over◌}
use Rattle.nrm_fraction.proofs.Reduced.{reduced_same}
use Rattle.nrm_fraction.proofs.fraction.Fraction.new.Goals as goal

common : (c : goal.After-gcd-common) → c.gcd-common.result ≡ gcd_of c.args.num c.args.den
common c = c.gcd-common.ensures.value ∙ ap (gcd_of c.args.num) c.from.ensures

pub nonzero_div-result : goal.nonzero_div-result
nonzero_div-result c = subst (λ n. 0 < n) (sym (common c)) (gcd_pos c.args.num c.args.den c.requires.some)

pub nonzero_div-result-2 : goal.nonzero_div-result-2
nonzero_div-result-2 c = subst (λ n. 0 < n) (sym (c.gcd-common.ensures.value ∙ ap (gcd_of c.args.num) c.from.ensures)) (gcd_pos c.args.num c.args.den c.requires.some)

pub invariant_of-result : goal.invariant_of-result
invariant_of-result c =
    let g : c.gcd-common.result ≡ gcd_of c.args.num c.args.den = c.gcd-common.ensures.value ∙ ap (gcd_of c.args.num) c.from.ensures in
    let den : c.from-2.result / c.gcd-common.result ≡ c.args.den / gcd_of c.args.num c.args.den = ap₂ (λ d n. d / n) c.from-2.ensures g in
    let num : c.args.num / c.gcd-common.result ≡ c.args.num / gcd_of c.args.num c.args.den = ap (λ n. c.args.num / n) g in (
      subst (λ n. 0 < n) (sym den) (reduced_pos c.args.num c.args.den c.requires.some),
      omega (arith, div-le_self c.args.num c.gcd-common.result, c.requires.size),
      ap₂ gcd_of num den ∙ reduced_lowest c.args.num c.args.den c.requires.some,
    )

pub returns : goal.returns
returns c =
    let g : c.gcd-common.result ≡ gcd_of c.args.num c.args.den = c.gcd-common.ensures.value ∙ ap (gcd_of c.args.num) c.from.ensures in
    ap₂ (λ n d. pos n over d) (ap (λ n. c.args.num / n) g) (ap₂ (λ d n. d / n) c.from-2.ensures g) ∙ reduced_same c.args.num c.args.den c.requires.some
