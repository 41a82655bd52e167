-- The bits from the end on are masked.
use Rattle.std.proofs.Common.{◌%◌, arith}
use Rattle.nrm_tableau.proofs.Walks.{down_from, low_mask}
use Rattle.nrm_tableau.proofs.walk.Downwards.new.Goals as goal

pub invariant_of-result : goal.invariant_of-result
invariant_of-result c = record { kept = down_from c.args.words.now c.args.end c.from-place.result c.word_at.result _ c.requires.few c.requires.within c.from-place.ensures c.word_at.ensures (low_mask c.word_at.result (c.args.end % 64) (omega arith)) }
