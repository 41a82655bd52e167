-- The count of zeros below is the place of the lowest bit.
use Rattle.std.proofs.Common.{w64}
use Rattle.std.proofs.lemmas.Nat.Bits.{bit_at-trailing_zeros}
use Rattle.nrm_tableau.proofs.walk.lowest.Goals as goal

pub returns-clause-there : goal.returns-clause-there
returns-clause-there c = (bit_at-trailing_zeros w64 c.args.word c.requires c.ranges.word.fits).1

pub returns-clause-none_below : goal.returns-clause-none_below
returns-clause-none_below c = (bit_at-trailing_zeros w64 c.args.word c.requires c.ranges.word.fits).2
