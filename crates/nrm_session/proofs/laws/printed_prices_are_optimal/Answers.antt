-- The prices that a `plan` line prints are optimal.
use Rattle.nrm_session.proofs.PrintedPlans.{printed-from, printed-optimal}
use Rattle.nrm_session.proofs.laws.printed_prices_are_optimal.Goals as goal

pub returns-clause-opening : goal.returns-clause-opening
returns-clause-opening c = printed-optimal

pub returns-clause-on : goal.returns-clause-on
returns-clause-on c = printed-from
