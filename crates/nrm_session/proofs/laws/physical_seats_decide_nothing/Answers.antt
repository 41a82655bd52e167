-- Physical seats decide nothing.
use Rattle.nrm_session.proofs.PhysicalSeats.{decide-nothing}
use Rattle.nrm_session.proofs.laws.physical_seats_decide_nothing.Goals as goal

pub returns : goal.returns
returns c = decide-nothing
