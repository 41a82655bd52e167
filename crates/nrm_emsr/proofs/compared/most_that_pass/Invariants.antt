-- No greater count passes.
use Rattle.std.proofs.Common.{◌≡◌, ◌≤◌}
use Rattle.nrm_emsr.specs.Inner.Sums.{crosses}
use Rattle.nrm_emsr.specs.Inner.Ranked.{greatest_count}
use Rattle.nrm_emsr.proofs.compared.most_that_pass.Given as goal

abbrev pub invariant-loop-count : goal.invariant-loop-count
invariant-loop-count l = record {
  within : l.count ≤ l.histories;
  same : greatest_count (λ count. crosses count l.above.fares l.above.seats l.histories l.next.fares l.next.seats) l.count
      ≡ greatest_count (λ count. crosses count l.above.fares l.above.seats l.histories l.next.fares l.next.seats) l.histories;
}

abbrev pub decreases-loop-count : goal.decreases-loop-count
decreases-loop-count l = l.count
