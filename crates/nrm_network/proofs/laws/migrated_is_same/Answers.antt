-- What a file gives is a network, and that is read from its canonical file.
use Rattle.nrm_network.proofs.CanonicalRead.{printed}
use Rattle.nrm_network.proofs.ReadNetwork.{read-is-network}
use Rattle.nrm_network.proofs.laws.migrated_is_same.Goals as goal

pub returns : goal.returns
returns c = λ bytes net answer. printed net (read-is-network bytes net answer)
