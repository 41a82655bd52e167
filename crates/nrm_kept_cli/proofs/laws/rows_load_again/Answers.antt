use Rattle.nrm_kept_cli.proofs.Again.{load-again}
use Rattle.nrm_kept_cli.proofs.laws.rows_load_again.Goals as goal

pub returns : goal.returns
returns c = load-again
