use Rattle.nrm_kept_cli.proofs.KeptLaws.{seats-kept}
use Rattle.nrm_kept_cli.proofs.laws.kept_runs_oversell_no_leg.Goals as goal

pub returns : goal.returns
returns c = seats-kept
