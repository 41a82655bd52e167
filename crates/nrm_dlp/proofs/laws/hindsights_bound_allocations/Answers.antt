use Rattle.nrm_dlp.proofs.Attained.{attained}
use Rattle.nrm_dlp.proofs.Bounds.{hindsight-bounds}
use Rattle.nrm_dlp.proofs.laws.hindsights_bound_allocations.Goals as goal

pub returns : goal.returns
returns c = record { bound = hindsight-bounds; attained = attained }
