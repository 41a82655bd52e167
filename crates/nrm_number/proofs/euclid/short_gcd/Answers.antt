-- A remainder keeps the greatest common divisor.
use Rattle.std.proofs.Common.{sym, ◌∙◌, ap, subst}
use Rattle.std.specs.Int.{IsGcd}
use Rattle.nrm_number.proofs.GcdLaws.{gcd-mod, gcd-zero, gcd_is}
use Rattle.nrm_number.specs.Gcd.{gcd as gcd_of}
use Rattle.nrm_number.proofs.euclid.short_gcd.Goals as goal

pub loop-y-preserved : goal.loop-y-preserved
loop-y-preserved c = gcd-mod _ _ ∙ c.loop-y.invariant

pub returns-clause-value : goal.returns-clause-value
returns-clause-value c = sym (gcd-zero c.loop-y.x) ∙ ap (gcd_of c.loop-y.x) (sym c.loop-y-test.false) ∙ c.loop-y.invariant

pub returns-clause-greatest : goal.returns-clause-greatest
returns-clause-greatest c = subst (IsGcd c.args.a c.args.b) (sym (returns-clause-value c)) (gcd_is c.args.a c.args.b)
