use Rattle.nrm_cluster.proofs.Thresholds.{thresholds-group}
use Rattle.nrm_cluster.proofs.laws.thresholds_group.Goals as goal

pub returns : goal.returns
returns c = thresholds-group
