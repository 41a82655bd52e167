use Rattle.nrm_dlp.proofs.Hindsights.{has-a-hindsight}
use Rattle.nrm_dlp.proofs.laws.each_has_a_hindsight.Goals as goal

pub returns : goal.returns
returns c = has-a-hindsight
