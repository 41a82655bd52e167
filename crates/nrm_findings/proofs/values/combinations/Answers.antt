use Rattle.std.proofs.Common.{◌≡◌, ◌^◌, ◌∙◌, arith}
use Rattle.std.proofs.Math.Nat.{one-le-pow}
use Rattle.nrm_legdp.proofs.Filling.{power-below}
use Rattle.nrm_findings.proofs.values.combinations.Goals as goal

pub pow-requires : goal.pow-requires
pow-requires c =
    let below = power-below c.args.histories c.args.classes c.requires.histories.1 c.requires.classes in
    rw (c.from.ensures, c.from-2.ensures) (omega (arith, below))

pub returns-clause-some : goal.returns-clause-some
returns-clause-some c =
    let is : c.from-3.result ≡ c.args.histories ^ c.args.classes = c.from-3.ensures ∙ c.pow.ensures ∙ (λ n. c.from.ensures n ^ c.from-2.ensures n) in
    omega (arith, is, one-le-pow c.args.classes c.args.histories (omega (arith, c.requires.histories.0)))

pub returns-clause-small : goal.returns-clause-small
returns-clause-small c =
    let is : c.from-3.result ≡ c.args.histories ^ c.args.classes = c.from-3.ensures ∙ c.pow.ensures ∙ (λ n. c.from.ensures n ^ c.from-2.ensures n) in
    omega (arith, is, power-below c.args.histories c.args.classes c.requires.histories.1 c.requires.classes)
