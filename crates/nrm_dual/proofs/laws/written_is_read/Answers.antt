use Rattle.nrm_dual.proofs.WrittenRead.{written_read}
use Rattle.nrm_dual.proofs.laws.written_is_read.Goals as goal

pub returns : goal.returns
returns c = written_read
