use Rattle.nrm_cluster.proofs.Tables.{one-is-chosen}
use Rattle.nrm_cluster.proofs.laws.one_division_is_chosen.Goals as goal

pub returns : goal.returns
returns c = one-is-chosen
