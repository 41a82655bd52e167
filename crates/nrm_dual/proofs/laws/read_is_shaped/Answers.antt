use Rattle.nrm_dual.proofs.ReadShape.{read_shaped}
use Rattle.nrm_dual.proofs.laws.read_is_shaped.Goals as goal

pub returns : goal.returns
returns c = λ net is bytes certificate read. read_shaped net bytes certificate read
