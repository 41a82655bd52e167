use Rattle.nrm_legdp.proofs.Seasons.{remembering-earns-no-more}
use Rattle.nrm_legdp.proofs.laws.remembering_earns_no_more.Goals as goal

pub returns : goal.returns
returns c = remembering-earns-no-more
