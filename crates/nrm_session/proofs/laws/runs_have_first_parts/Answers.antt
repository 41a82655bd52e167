-- Each first part of a run is a run.
use Rattle.nrm_session.proofs.FirstParts.{first-parts}
use Rattle.nrm_session.proofs.laws.runs_have_first_parts.Goals as goal

pub returns : goal.returns
returns c = first-parts
