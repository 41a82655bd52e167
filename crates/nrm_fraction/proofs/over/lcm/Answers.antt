use Rattle.std.proofs.Common.{◌<◌, ◌*◌, ◌/◌, sym, ap, ap₂, ◌∙◌, subst}
use Rattle.nrm_number.specs.Gcd.{gcd as gcd_of}
use Rattle.nrm_number.proofs.GcdLaws.{gcd_pos}
use Rattle.nrm_fraction.proofs.Running.{lcm_parts}
use Rattle.nrm_fraction.proofs.over.lcm.Goals as goal

pub nonzero_div-result : goal.nonzero_div-result
nonzero_div-result c = subst (λ n. 0 < n) (sym (c.gcd-divisor.ensures.value ∙ ap₂ gcd_of c.from.ensures c.from-2.ensures)) (gcd_pos c.args.a c.args.b c.requires.some)

pub returns-clause-value : goal.returns-clause-value
returns-clause-value c = ap₂ (λ a b. a * (b / c.gcd-divisor.result)) c.from-3.ensures c.from-4.ensures ∙ ap (λ n. c.args.a * (c.args.b / n)) (c.gcd-divisor.ensures.value ∙ ap₂ gcd_of c.from.ensures c.from-2.ensures) ∙ lcm_parts c.args.a c.args.b
