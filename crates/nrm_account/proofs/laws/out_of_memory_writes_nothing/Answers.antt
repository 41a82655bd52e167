use Rattle.nrm_account.proofs.OwnLines.{nothing-written}
use Rattle.nrm_account.proofs.laws.out_of_memory_writes_nothing.Goals as goal

pub returns : goal.returns
returns c = nothing-written
