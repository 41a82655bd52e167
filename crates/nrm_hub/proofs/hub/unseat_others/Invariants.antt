-- So many clients were looked at.
use Rattle.nrm_hub.specs.Due.{AreDue, DueValue}
use Rattle.nrm_hub.specs.Inner.Seats.{AreUnseated}
use Rattle.nrm_hub.proofs.hub.unseat_others.Given as goal

abbrev pub invariant-loop-other : goal.invariant-loop-other
invariant-loop-other l = record {
  so : AreUnseated l.fn.clients.items l.clients.items l.place l.desk l.other;
  due : (due : DueValue) → AreDue l.fn.clients.items due l.fn.heard → AreDue l.clients.items due l.heard;
}
