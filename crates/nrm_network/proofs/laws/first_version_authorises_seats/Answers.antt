-- The legs of the rows' network have one field for both.
use Rattle.nrm_network.proofs.ReadNetwork.{first-version}
use Rattle.nrm_network.proofs.laws.first_version_authorises_seats.Goals as goal

pub returns : goal.returns
returns c = first-version
