-- Commands and replies determine the states.
use Rattle.nrm_session.proofs.Determined.{states-determined}
use Rattle.nrm_session.proofs.laws.states_are_determined.Goals as goal

pub returns : goal.returns
returns c = states-determined
