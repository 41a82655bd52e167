-- What was sold in all is accounted for.
use Rattle.nrm_session.proofs.Money.{adds-up, goes-on}
use Rattle.nrm_session.proofs.laws.money_adds_up.Goals as goal

pub returns-clause-opening : goal.returns-clause-opening
returns-clause-opening c = adds-up

pub returns-clause-on : goal.returns-clause-on
returns-clause-on c = goes-on
