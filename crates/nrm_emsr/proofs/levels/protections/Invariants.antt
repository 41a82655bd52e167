-- The protections and the sums of the buckets so far.
use Rattle.std.proofs.Common.{◌≡◌, ◌+◌, map}
use Rattle.std.specs.List.{range_with_len}
use Rattle.nrm_emsr.specs.Protections.{protection_of}
use Rattle.nrm_emsr.specs.Inner.Sums.{AreSumsTo}
use Rattle.nrm_emsr.proofs.levels.protections.Given as goal

abbrev pub invariant-loop-passed : goal.invariant-loop-passed
invariant-loop-passed l = record {
  levels : l.levels.items ≡ map (protection_of l.net l.cert l.leg l.period) (range_with_len 1 l.passed);
  last : l.last ≡ protection_of l.net l.cert l.leg l.period l.passed;
  sums : AreSumsTo l.net l.period l.nest.items (l.passed + 1) l.sums;
}
