use Rattle.nrm_legdp.proofs.Seasons.{earned-over-seasons}
use Rattle.nrm_legdp.proofs.laws.earned_over_seasons.Goals as goal

pub returns : goal.returns
returns c = earned-over-seasons
