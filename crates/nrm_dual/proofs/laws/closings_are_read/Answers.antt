use Rattle.nrm_dual.proofs.ClosingLowest.{closings_read}
use Rattle.nrm_dual.proofs.WrittenRead.{written_read}
use Rattle.nrm_dual.proofs.laws.closings_are_read.Goals as goal

pub returns : goal.returns
returns c = closings_read written_read
