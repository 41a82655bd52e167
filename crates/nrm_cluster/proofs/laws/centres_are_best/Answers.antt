use Rattle.nrm_cluster.proofs.Medians.{centre-is-best}
use Rattle.nrm_cluster.proofs.laws.centres_are_best.Goals as goal

pub returns : goal.returns
returns c = centre-is-best
