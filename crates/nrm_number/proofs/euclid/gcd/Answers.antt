-- A remainder keeps the greatest common divisor, at 128 bits and then at 64.
use Rattle.std.proofs.Common.{◌≡◌, sym, ◌∙◌, ap, subst}
use Rattle.std.specs.Int.{IsGcd}
use Rattle.nrm_number.proofs.GcdLaws.{gcd-mod, gcd-zero, gcd_is}
use Rattle.nrm_number.specs.Gcd.{gcd as gcd_of}
use Rattle.nrm_number.proofs.euclid.gcd.Goals as goal

pub loop-x-preserved : goal.loop-x-preserved
loop-x-preserved c = gcd-mod _ _ ∙ c.loop-x.invariant

at_nought : (c : goal.Then-y-eq0) → c.loop-x.x ≡ gcd_of c.args.a c.args.b
at_nought c = sym (gcd-zero c.loop-x.x) ∙ ap (gcd_of c.loop-x.x) (sym c.if-y-eq0.true) ∙ c.loop-x.invariant

pub returns-then-y-eq0-clause-value : goal.returns-then-y-eq0-clause-value
returns-then-y-eq0-clause-value c = at_nought c

pub returns-then-y-eq0-clause-greatest : goal.returns-then-y-eq0-clause-greatest
returns-then-y-eq0-clause-greatest c = subst (IsGcd c.args.a c.args.b) (sym (at_nought c)) (gcd_is c.args.a c.args.b)

pub returns-clause-greatest : goal.returns-clause-greatest
returns-clause-greatest c = subst (IsGcd c.args.a c.args.b) (sym (c.from.ensures ∙ c.short_gcd.ensures.value ∙ c.loop-x.invariant)) (gcd_is c.args.a c.args.b)
