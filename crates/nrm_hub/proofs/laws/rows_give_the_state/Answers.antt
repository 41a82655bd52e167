-- The law is a lemma.
use Rattle.nrm_hub.proofs.RegisterStates.{rows-give}
use Rattle.nrm_hub.proofs.laws.rows_give_the_state.Goals as goal

pub returns : goal.returns
returns c = rows-give
