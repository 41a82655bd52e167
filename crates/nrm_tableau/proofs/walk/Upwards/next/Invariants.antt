-- No row has been passed by.
use Rattle.std.proofs.Common.{◌≡◌, ◌≤◌, ◌-◌, length}
use Rattle.nrm_tableau.specs.Inner.Walks.{HasNone}
use Rattle.nrm_tableau.proofs.walk.Upwards.next.Given as goal

abbrev pub invariant-loop-self : goal.invariant-loop-self
invariant-loop-self l = record {
  same : l.self.words.now ≡ l.initial.self.words.now;
  low : l.initial.self.from ≤ l.self.from;
  none : HasNone l.initial.self.words.now l.initial.self.from l.self.from;
}

abbrev pub decreases-loop-self : goal.decreases-loop-self
decreases-loop-self l = length l.self.words.now - l.self.place
