-- The sums so far and the next bucket's are those over one bucket more.
use Rattle.std.proofs.Common.{◌+◌}
use Rattle.nrm_emsr.proofs.Means.{fares-small, mean-more, weight-small}
use Rattle.nrm_emsr.proofs.sums.add_next.Goals as goal

pub both-sums-requires-clause-fares : goal.both-sums-requires-clause-fares
both-sums-requires-clause-fares c = fares-small c.args.net.now c.args.period c.args.nest.now c.requires.few 1 c.args.last c.args.sums.now.above c.requires.sums.above

pub both-sums-requires-clause-weight : goal.both-sums-requires-clause-weight
both-sums-requires-clause-weight c = weight-small c.args.net.now c.args.period c.args.nest.now c.requires.few 1 c.args.last c.args.sums.now.above c.requires.sums.above

pub both-sums-requires-clause-other_fares : goal.both-sums-requires-clause-other_fares
both-sums-requires-clause-other_fares c = fares-small c.args.net.now c.args.period c.args.nest.now c.requires.few (c.args.last + 1) (c.args.last + 1) c.add_bucket-next.result c.add_bucket-next.ensures.mean

pub both-sums-requires-clause-other_weight : goal.both-sums-requires-clause-other_weight
both-sums-requires-clause-other_weight c = weight-small c.args.net.now c.args.period c.args.nest.now c.requires.few (c.args.last + 1) (c.args.last + 1) c.add_bucket-next.result c.add_bucket-next.ensures.mean

pub returns-clause-sums : goal.returns-clause-sums
returns-clause-sums c = record {
  above = mean-more c.args.net.now c.args.period c.args.nest.now c.args.last c.args.sums.now.above c.add_bucket-next.result c.both-sums.result c.requires.sums.above c.add_bucket-next.ensures.mean c.both-sums.ensures.seats c.both-sums.ensures.fares c.both-sums.ensures.size;
  demands = c.add_bucket-next.ensures.demands;
}

pub returns-clause-next_weight : goal.returns-clause-next_weight
returns-clause-next_weight c = weight-small c.args.net.now c.args.period c.args.nest.now c.requires.few (c.args.last + 1) (c.args.last + 1) c.add_bucket-next.result c.add_bucket-next.ensures.mean

pub returns-clause-next_fares : goal.returns-clause-next_fares
returns-clause-next_fares c = fares-small c.args.net.now c.args.period c.args.nest.now c.requires.few (c.args.last + 1) (c.args.last + 1) c.add_bucket-next.result c.add_bucket-next.ensures.mean
