-- The words of a command are read as it.
use Rattle.nrm_stream.proofs.Written.{written-read}
use Rattle.nrm_stream.proofs.laws.written_commands_are_read.Goals as goal

pub returns : goal.returns
returns c = written-read
