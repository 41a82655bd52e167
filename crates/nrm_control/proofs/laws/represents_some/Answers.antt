use Rattle.nrm_control.proofs.States.{some-state}
use Rattle.nrm_control.proofs.laws.represents_some.Goals as goal

pub returns : goal.returns
returns c = some-state
