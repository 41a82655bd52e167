-- Hindsight bounds every selection of the requests.
use Rattle.nrm_session.proofs.Hindsights.{bounded, openings-bounded}
use Rattle.nrm_session.proofs.laws.hindsight_bounds.Goals as goal

pub returns : goal.returns
returns c = record { opening = openings-bounded; on = bounded }
