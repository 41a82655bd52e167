-- No row has been passed by.
use Rattle.std.proofs.Common.{◌≡◌, ◌≤◌}
use Rattle.nrm_tableau.specs.Inner.Walks.{HasNone}
use Rattle.nrm_tableau.proofs.walk.Downwards.next.Given as goal

abbrev pub invariant-loop-self : goal.invariant-loop-self
invariant-loop-self l = record {
  same : l.self.words.now ≡ l.initial.self.words.now;
  high : l.self.end ≤ l.initial.self.end;
  none : HasNone l.initial.self.words.now l.self.end l.initial.self.end;
}

abbrev pub decreases-loop-self : goal.decreases-loop-self
decreases-loop-self l = l.self.place
