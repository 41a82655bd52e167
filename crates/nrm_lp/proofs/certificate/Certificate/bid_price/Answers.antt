use Rattle.std.proofs.Common.{◌≡◌, arith, get_or}
use Rattle.std.proofs.lemmas.Grind.{common_steps}
use Rattle.nrm_lp.specs.Certified.{sizes}
use Rattle.nrm_lp.proofs.Sizes.{small_size}
use Rattle.nrm_lp.proofs.certificate.Certificate.bid_price.Goals as goal

pub returns-clause-limit : goal.returns-clause-limit
returns-clause-limit c =
    let value : c.unsigned_abs.result ≡ get_or (sizes c.args.self.now.p) c.args.leg 0 = grind (arith, common_steps) in
    omega (arith, value, small_size c.args.self.now.p c.requires.prices c.args.leg)
