-- The numbers of the entries so far are within the greatest.
use Rattle.std.proofs.Common.{ℕ, ◌<◌, ◌≤◌, take, nat_abs}
use Rattle.nrm_fraction.specs.Large.{size_limit}
use Rattle.nrm_fraction.specs.Rows.{number_at}
use Rattle.nrm_row.proofs.in_place.greatest_listed.Given as goal

abbrev pub invariant-loop-number : goal.invariant-loop-number
invariant-loop-number l = record {
  bound : (c : ℕ) → nat_abs (number_at (take l.number-index l.entries) c) ≤ l.most;
  small : l.most < size_limit;
}
