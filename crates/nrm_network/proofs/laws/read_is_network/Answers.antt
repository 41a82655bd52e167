-- The law holds by the rows: those of a file that is taken give a network within the limits.
use Rattle.nrm_network.proofs.ReadNetwork.{read-is-network}
use Rattle.nrm_network.proofs.laws.read_is_network.Goals as goal

pub returns : goal.returns
returns c = read-is-network
