-- Commands determine the replies, where memory suffices.
use Rattle.nrm_session.proofs.Determined.{determined}
use Rattle.nrm_session.proofs.laws.replies_are_determined.Goals as goal

pub returns : goal.returns
returns c = determined
