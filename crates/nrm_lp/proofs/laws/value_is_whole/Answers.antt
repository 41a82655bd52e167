use Rattle.nrm_lp.proofs.Meeting.{value_is_whole as the_law}
use Rattle.nrm_lp.proofs.laws.value_is_whole.Goals as goal

pub returns : goal.returns
returns c = λ a ok t last. the_law a ok t last
