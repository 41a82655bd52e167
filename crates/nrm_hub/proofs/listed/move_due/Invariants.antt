-- The places of so many of the list are in the other one, but for those where nobody is, or one who is at rest.
use Rattle.std.proofs.Common.{◌≡◌}
use Rattle.nrm_hub.specs.Due.{StillDue}
use Rattle.nrm_hub.proofs.DuePlaces.{StayDue}
use Rattle.nrm_hub.proofs.listed.move_due.Given as goal

abbrev pub invariant-loop-at : goal.invariant-loop-at
invariant-loop-at l = record {
  same : l.clients.items ≡ l.fn.clients.items;
  still : StillDue l.fn.to l.to;
  stay : StayDue l.fn.clients.items l.from l.to l.at;
}
