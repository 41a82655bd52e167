use Rattle.nrm_lp.proofs.Meeting.{ends_meet}
use Rattle.nrm_lp.proofs.laws.ends_meet.Goals as goal

pub returns : goal.returns
returns c = λ a ok t last. ends_meet a ok t last
