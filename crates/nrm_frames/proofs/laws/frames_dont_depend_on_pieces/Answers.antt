use Rattle.nrm_frames.proofs.Fronts.{pieces}
use Rattle.nrm_frames.proofs.laws.frames_dont_depend_on_pieces.Goals as goal

pub returns : goal.returns
returns c = pieces
