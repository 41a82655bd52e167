-- The numbers divided by their common divisor are a row of the same fractions.
use Rattle.std.proofs.Common.{rules, ◌≡◌, ap, ap₂, sym, subst₂, ◌∙◌, unsigned_abs, to_z, of_z, to_z-of_z, w64}
use mir.Val.{SFits}
use Rattle.nrm_number.specs.Gcd.{shrink}
use Rattle.nrm_fraction.specs.Large.{fractions, gcd_all}
use Rattle.nrm_row.specs.Numbers.{IsRow}
use Rattle.nrm_row.specs.Inner.Crossed.{shrunk}
use Rattle.nrm_row.proofs.LowestTerms.{loosened, small_is_row, lowest_same}
use Rattle.nrm_row.proofs.lowest.lowest.Goals as goal

common : (c : goal.After-quotient) → unsigned_abs (to_z w64 (of_z w64 c.divisor-common.result)) ≡ gcd_all (unsigned_abs c.args.den) c.args.nums.now
common c = let fits : SFits w64 c.divisor-common.result = search rules in ap unsigned_abs (to_z-of_z fits ∙ c.divisor-common.ensures.value) ∙ ap (λ d. gcd_all (unsigned_abs d) c.args.nums.now) (to_z-of_z c.ranges.den)

den : (c : goal.After-quotient) → to_z w64 (of_z w64 c.quotient.result) ≡ shrink c.args.den (gcd_all (unsigned_abs c.args.den) c.args.nums.now)
den c = let fits : SFits w64 c.quotient.result = search rules in to_z-of_z fits ∙ c.quotient.ensures ∙ ap₂ shrink (to_z-of_z c.ranges.den) (common c)

made : (c : goal.After-quotient) → c.in_ok-made.made.items ≡ shrunk (gcd_all (unsigned_abs c.args.den) c.args.nums.now) c.args.nums.now
made c = c.in_ok-made.ensures ∙ ap (λ g. shrunk g c.args.nums.now) (common c)

pub returns-clause-row : goal.returns-clause-row
returns-clause-row c = subst₂ (λ d ns. IsRow d ns) (sym (den c)) (sym (made c)) (loosened _ _ (small_is_row c.args.den c.args.nums.now c.requires))

pub returns-clause-same : goal.returns-clause-same
returns-clause-same c = ap₂ (λ d ns. fractions (unsigned_abs d) ns) (den c) (made c) ∙ lowest_same c.args.den c.args.nums.now c.requires.positive
