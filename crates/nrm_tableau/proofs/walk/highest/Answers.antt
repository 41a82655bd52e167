-- The count of zeros above tells the place of the highest bit.
use Rattle.nrm_tableau.proofs.Walks.{highest_there, none_above_highest}
use Rattle.nrm_tableau.proofs.walk.highest.Goals as goal

pub returns-clause-there : goal.returns-clause-there
returns-clause-there c = highest_there c.args.word c.requires c.ranges.word.fits

pub returns-clause-none_above : goal.returns-clause-none_above
returns-clause-none_above c = none_above_highest c.args.word c.requires c.ranges.word.fits
