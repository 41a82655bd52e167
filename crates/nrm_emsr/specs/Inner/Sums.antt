-- Sums over the buckets of a leg.
use Rattle.std.specs.Prelude.{ℕ, ◌≡◌, ◌+◌, ◌-◌, ◌*◌, ◌^◌, ◌≤◌, ◌==◌, ◌||◌, not, Bool, List, length, map, sum_by, slice_index}
use Rattle.std.specs.Prelude.{nat_lt, ℤ, pos, ◌*ℤ◌, int_lt, unsigned_abs, if◌then◌else◌}
use Rattle.std.specs.List.{range_with_len}
use Rattle.std.specs.List.Sorted.{IsPermutation}
use Rattle.nrm_model.specs.Network.{NetworkValue}
use Rattle.nrm_model.specs.Demand.{demand_to_come, total_to_come}
use Rattle.nrm_model.specs.declared.limits.TheConstants.{MOST_TOTAL_DEMAND}
use Rattle.nrm_lp.specs.declared.certificate.Certificate.{Certificate}
use Rattle.nrm_emsr.specs.declared.nest.Nested.{Nested}
use Rattle.nrm_emsr.specs.declared.sums.Mean.{Mean}
use Rattle.nrm_emsr.specs.declared.sums.Sums.{Sums}
use Rattle.nrm_emsr.specs.Fares.{sum_of, weight_of, weighted_fares}
use Rattle.nrm_emsr.specs.Protections.{demand_above}
use Rattle.nrm_emsr.specs.Inner.Nest.{in_buckets}
use Rattle.nrm_emsr.specs.Inner.Ranked.{Falls}

-- of the products in the buckets from one to another, from this period on: their demand to come in a history, in all histories, and their
-- fares, each as often as it
abbrev pub nest_demand : NetworkValue → ℕ → List Nested → ℕ → ℕ → ℕ → ℕ
nest_demand net period nest first last history =
    sum_by (λ (nested : Nested). demand_to_come net nested.product history period) (in_buckets nest first last)

abbrev pub nest_weight : NetworkValue → ℕ → List Nested → ℕ → ℕ → ℕ
nest_weight net period nest first last = sum_by (λ (nested : Nested). total_to_come net nested.product period) (in_buckets nest first last)

abbrev pub nest_fares : NetworkValue → ℕ → List Nested → ℕ → ℕ → ℤ
nest_fares net period nest first last =
    sum_of (map (λ (nested : Nested). nested.fare *ℤ pos (total_to_come net nested.product period)) (in_buckets nest first last))

-- a mean fare is theirs, and within its bounds
pub record IsMeanOf (net : NetworkValue) (period : ℕ) (nest : List Nested) (first last : ℕ) (mean : Mean) : Type 0 where
  pub seats : mean.seats ≡ nest_weight net period nest first last
  pub fares : mean.fares ≡ nest_fares net period nest first last
  pub seats_size : mean.seats ≤ MOST_TOTAL_DEMAND * length (in_buckets nest first last)
  pub fares_size : unsigned_abs mean.fares ≤ 2 ^ 75 * MOST_TOTAL_DEMAND * length (in_buckets nest first last)

-- the sums over buckets 1 to this one
pub record AreSumsTo (net : NetworkValue) (period : ℕ) (nest : List Nested) (bucket : ℕ) (sums : Sums) : Type 0 where
  pub above : IsMeanOf net period nest 1 bucket sums.above
  pub demands : sums.demands.items ≡ map (nest_demand net period nest 1 bucket) (range_with_len 0 net.histories)

-- what decides on buckets 1 to this one of a leg: the mean fares of them and of the next bucket, and their demands history by history,
-- sorted so that they fall
pub record AreSumsOf (net : NetworkValue) (cert : Certificate) (leg period bucket : ℕ) (above next : Mean) (ranked : List ℕ) : Type 0 where
  pub seats : above.seats ≡ weight_of net cert leg period 1 bucket
  pub fares : above.fares ≡ weighted_fares net cert leg period 1 bucket
  pub next_seats : next.seats ≡ weight_of net cert leg period (bucket + 1) (bucket + 1)
  pub next_fares : next.fares ≡ weighted_fares net cert leg period (bucket + 1) (bucket + 1)
  pub demands : IsPermutation (map (demand_above net cert leg period bucket) (range_with_len 0 net.histories)) ranked
  pub falls : Falls ranked

-- the fare of a bucket as a number over another and the certificate's denominator, from the fares in it and their demand
abbrev pub fare_by : ℤ → ℕ → List ℕ → ℕ → ℕ → ℤ × ℕ
fare_by fares weight cuts den bucket =
    if nat_lt bucket (length cuts + 1)
    then (if weight == 0 then (pos (slice_index cuts (bucket - 1) * den), 1) else (fares, weight))
    else (if (weight == 0) || int_lt fares (pos 0) then (pos 0, 1) else (fares, weight))

-- a count times one fare is at most n times another, multiplied across
abbrev pub crosses : ℕ → ℤ → ℕ → ℕ → ℤ → ℕ → Bool
crosses count fares seats n next_fares next_seats =
    not (int_lt ((pos n *ℤ next_fares) *ℤ pos seats) ((pos count *ℤ fares) *ℤ pos next_seats))
