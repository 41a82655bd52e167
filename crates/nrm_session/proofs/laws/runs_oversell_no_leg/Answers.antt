-- No leg is oversold.
use Rattle.nrm_session.proofs.Seats.{kept}
use Rattle.nrm_session.proofs.laws.runs_oversell_no_leg.Goals as goal

pub returns : goal.returns
returns c = kept
