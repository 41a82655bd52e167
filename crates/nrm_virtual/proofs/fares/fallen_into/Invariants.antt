use Rattle.std.proofs.Common.{◌≡◌, ◌≤◌, ◌+◌, take}
use Rattle.nrm_virtual.specs.Buckets.{bucket_of_fare}
use Rattle.nrm_virtual.proofs.fares.fallen_into.Given as goal

abbrev pub invariant-loop-cut : goal.invariant-loop-cut
invariant-loop-cut l = record {
  bucket : l.bucket ≡ bucket_of_fare l.fare l.den (take l.cut-index l.cuts);
  within : l.bucket ≤ 1 + l.cut-index;
  some : 1 ≤ l.bucket;
}
