use Rattle.std.proofs.Common.{◌<◌, subst}
use Rattle.nrm_findings.proofs.ProgramOfNetwork.{legs-of, products-of}
use Rattle.nrm_findings.proofs.certificates.line_of_verdict.Goals as goal

pub product_at-requires : goal.product_at-requires
product_at-requires c = subst (λ n. c.in-WrongProduct.product < n) (products-of c.args.net.now) (rw c.in-WrongProduct.is at c.requires)

pub leg_at-requires : goal.leg_at-requires
leg_at-requires c = subst (λ n. c.in-WrongLeg.leg < n) (legs-of c.args.net.now) (rw c.in-WrongLeg.is at c.requires)
