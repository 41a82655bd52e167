-- What was due is due.
use Rattle.nrm_hub.proofs.DuePlaces.{still-beside}
use Rattle.nrm_hub.proofs.listed.list_came.Goals as goal

pub returns-then-is_none-clause-due : goal.returns-then-is_none-clause-due
returns-then-is_none-clause-due c = still-beside c.args.place c.args.due.now c.list.new.due c.list.ensures.still
