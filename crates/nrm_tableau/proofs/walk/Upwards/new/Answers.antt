-- The bits below the row are masked.
use Rattle.nrm_tableau.proofs.Walks.{up_from}
use Rattle.nrm_tableau.proofs.walk.Upwards.new.Goals as goal

pub invariant_of-result : goal.invariant_of-result
invariant_of-result c = record { kept = up_from c.args.words.now c.args.from c.from-place.result c.word_at.result c.ranges.from.fits c.requires c.from-place.ensures c.word_at.ensures }
