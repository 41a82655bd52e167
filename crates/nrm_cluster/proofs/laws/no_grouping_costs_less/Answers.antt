use Rattle.nrm_cluster.proofs.Nearest.{no-grouping-costs-less}
use Rattle.nrm_cluster.proofs.laws.no_grouping_costs_less.Goals as goal

pub returns : goal.returns
returns c = no-grouping-costs-less
