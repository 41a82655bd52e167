use Rattle.std.proofs.Common.{arith}
use Rattle.std.proofs.lemmas.List.{at_drop_all, at_drop_more}
use Rattle.nrm_lp.specs.Program.{price_sum}
use Rattle.nrm_lp.specs.Certified.{sizes}
use Rattle.nrm_lp.proofs.certificate.Certificate.price_sum.Goals as goal

pub loop-leg-preserved : goal.loop-leg-preserved
loop-leg-preserved c =
    let more = at_drop_more (price_sum (sizes c.args.self.now.p)) c.args.legs.now c.loop-leg.leg-index 0 c.loop-leg-test.true in
    record {
      counted = omega (arith, more, c.loop-leg.invariant.counted, c.bid_price-sum.ensures.value);
      limit = omega (arith, c.loop-leg.invariant.limit, c.bid_price-sum.ensures.limit);
    }

pub returns-clause-sum : goal.returns-clause-sum
returns-clause-sum c = omega (arith, c.loop-leg.invariant.counted, at_drop_all (price_sum (sizes c.args.self.now.p)) c.args.legs.now c.loop-leg.leg-index c.loop-leg-test.false)
