use Rattle.nrm_legdp.proofs.Values.{values-fall}
use Rattle.nrm_legdp.proofs.laws.a_further_seat_adds_no_more.Goals as goal

pub returns : goal.returns
returns c = values-fall
