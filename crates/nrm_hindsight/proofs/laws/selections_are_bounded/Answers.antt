use Rattle.nrm_hindsight.proofs.Selections.{bookings-selected, selections-allocate, selections-bounded}
use Rattle.nrm_hindsight.proofs.laws.selections_are_bounded.Goals as goal

pub returns-clause-allocates : goal.returns-clause-allocates
returns-clause-allocates c = selections-allocate

pub returns-clause-bounded : goal.returns-clause-bounded
returns-clause-bounded c = selections-bounded

pub returns-clause-bookings : goal.returns-clause-bookings
returns-clause-bookings c = bookings-selected
