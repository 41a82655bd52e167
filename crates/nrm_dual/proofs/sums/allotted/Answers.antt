use Rattle.std.proofs.Common.{◌≡◌, arith, get_or}
use Rattle.std.proofs.lemmas.Grind.{common_steps}
use Rattle.nrm_lp.specs.Certified.{sizes}
use Rattle.nrm_lp.proofs.Sizes.{small_size}
use Rattle.nrm_dual.proofs.sums.allotted.Goals as goal

pub returns-clause-limit : goal.returns-clause-limit
returns-clause-limit c =
    let value : c.unsigned_abs.result ≡ get_or (sizes c.args.certificate.now.x) c.args.product 0 = grind (arith, common_steps) in
    omega (arith, value, small_size c.args.certificate.now.x c.requires.numbers c.args.product)
