use Rattle.std.proofs.Common.{◌≡◌, All, length, pos, ◌≤ℤ◌, ◌<ℤ◌}
use Rattle.nrm_fraction.specs.Large.{size_limit}
use Rattle.nrm_nests_tests.proofs.bucket.priced.Given as goal

abbrev pub invariant-loop-price : goal.invariant-loop-price
invariant-loop-price l = record {
  count : length l.p.items ≡ l.price-index;
  prices : All (λ price. (pos 0 ≤ℤ price) × (price <ℤ pos size_limit)) l.p.items;
}
