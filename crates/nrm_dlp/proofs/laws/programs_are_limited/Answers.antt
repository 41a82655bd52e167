use Rattle.nrm_dlp.proofs.Hindsights.{hindsight-limited}
use Rattle.nrm_dlp.proofs.Limited.{limited, made-limited, opening-limited}
use Rattle.nrm_dlp.proofs.laws.programs_are_limited.Goals as goal

pub returns : goal.returns
returns c = record { made = made-limited; left = limited; opening = opening-limited; hindsight = hindsight-limited }
