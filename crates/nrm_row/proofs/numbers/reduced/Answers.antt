-- A number and a denominator divided by their common divisor have the same ratio, in lowest terms.
use Rattle.std.proofs.Common.{rules, ◌≡◌, ap, ap₂, sym, subst, ◌∙◌, pos, ◌*ℤ◌, ◌<ℤ◌, unsigned_abs, to_z, of_z, to_z-of_z, w64}
use mir.Val.{SFits}
use Rattle.nrm_number.specs.Gcd.{gcd, shrink}
use Rattle.nrm_row.proofs.Combining.{reduced_positive, reduced_same, reduced_ones}
use Rattle.nrm_row.proofs.numbers.reduced.Goals as goal

shared : (c : goal.After-quotient-2) → unsigned_abs (to_z w64 (of_z w64 c.shared_divisor-shared.result)) ≡ gcd (unsigned_abs c.args.n) (unsigned_abs c.args.den)
shared c =
    let fits : SFits w64 c.shared_divisor-shared.result = search rules in
    ap unsigned_abs (to_z-of_z fits ∙ c.shared_divisor-shared.ensures.value) ∙ ap₂ (λ n d. gcd (unsigned_abs n) (unsigned_abs d)) (to_z-of_z c.ranges.n) (to_z-of_z c.ranges.den)

number : (c : goal.After-quotient-2) → to_z w64 (of_z w64 c.quotient.result) ≡ shrink c.args.n (gcd (unsigned_abs c.args.n) (unsigned_abs c.args.den))
number c = let fits : SFits w64 c.quotient.result = search rules in to_z-of_z fits ∙ c.quotient.ensures ∙ ap₂ shrink (to_z-of_z c.ranges.n) (shared c)

den : (c : goal.After-quotient-2) → to_z w64 (of_z w64 c.quotient-2.result) ≡ shrink c.args.den (gcd (unsigned_abs c.args.n) (unsigned_abs c.args.den))
den c = let fits : SFits w64 c.quotient-2.result = search rules in to_z-of_z fits ∙ c.quotient-2.ensures ∙ ap₂ shrink (to_z-of_z c.ranges.den) (shared c)

pub returns-clause-same : goal.returns-clause-same
returns-clause-same c = ap (λ a. a *ℤ c.args.den) (number c) ∙ reduced_same c.args.n c.args.den ∙ ap (λ e. c.args.n *ℤ e) (sym (den c))

pub returns-clause-lowest : goal.returns-clause-lowest
returns-clause-lowest c = ap₂ (λ a e. gcd (unsigned_abs a) (unsigned_abs e)) (number c) (den c) ∙ reduced_ones c.args.n c.args.den c.requires.positive

pub returns-clause-positive : goal.returns-clause-positive
returns-clause-positive c = subst (λ e. pos 0 <ℤ e) (sym (den c)) (reduced_positive c.args.n c.args.den c.requires.positive)
