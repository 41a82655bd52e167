use Rattle.nrm_hindsight.proofs.Tallies.{requests-stand, tallies-capped}
use Rattle.nrm_hindsight.proofs.laws.tallies_suffice.Goals as goal

pub returns-clause-capped : goal.returns-clause-capped
returns-clause-capped c = tallies-capped

pub returns-clause-stand : goal.returns-clause-stand
returns-clause-stand c = requests-stand
