-- Other lines never run out of memory.
use Rattle.nrm_session.proofs.OtherLines.{other-lines}
use Rattle.nrm_session.proofs.laws.other_lines_need_no_memory.Goals as goal

pub returns : goal.returns
returns c = other-lines
