use Rattle.nrm_dlp.proofs.Hindsights.{one-hindsight}
use Rattle.nrm_dlp.proofs.laws.hindsights_are_determined.Goals as goal

pub returns : goal.returns
returns c = one-hindsight
