-- Each list of commands has a run.
use Rattle.nrm_session.proofs.Runs.{runs}
use Rattle.nrm_session.proofs.laws.each_list_has_a_run.Goals as goal

pub returns : goal.returns
returns c = runs
