use Rattle.nrm_kept_cli.proofs.KeptLaws.{hindsight-bounds}
use Rattle.nrm_kept_cli.proofs.laws.kept_hindsight_bounds.Goals as goal

pub returns : goal.returns
returns c = hindsight-bounds
