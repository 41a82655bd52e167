-- The sums are those of the products so far.
use Rattle.std.proofs.Common.{◌≡◌, ◌+◌, map, take}
use Rattle.std.specs.List.{range_with_len}
use Rattle.nrm_emsr.specs.Inner.Sums.{IsMeanOf, nest_demand}
use Rattle.nrm_emsr.proofs.sums.add_bucket.Given as goal

abbrev pub invariant-loop-nested : goal.invariant-loop-nested
invariant-loop-nested l = record {
  mean : IsMeanOf l.net l.period (take l.nested-index l.nest) (l.above + 1) (l.above + 1) l.mean;
  demands : l.demands.items
      ≡ map (λ h. nest_demand l.net l.period l.nest 1 l.above h + nest_demand l.net l.period (take l.nested-index l.nest) (l.above + 1) (l.above + 1) h)
      (range_with_len 0 l.net.histories);
}
