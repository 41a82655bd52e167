-- What each request is answered.
use Rattle.nrm_session.proofs.Verdicts.{requests-answered}
use Rattle.nrm_session.proofs.laws.requests_are_answered.Goals as goal

pub returns : goal.returns
returns c = requests-answered
