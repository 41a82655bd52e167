-- The fares of buckets: means, weighted by the demand to come.
use Rattle.std.specs.Prelude.{ℕ, ◌*◌, ◌==◌, ◌||◌, ◌-◌, List, [], ◌∷◌, map, filter, sum_by, slice_index, nat_lt, ℤ, pos, nat_abs, ◌+ℤ◌, ◌*ℤ◌}
use Rattle.std.specs.Prelude.{int_lt, if◌then◌else◌}
use Rattle.std.specs.Int.{is_in_range}
use Rattle.nrm_fraction.specs.Fraction.{Fraction, ◌over◌, whole}
use Rattle.nrm_model.specs.Network.{NetworkValue, leg_of}
use Rattle.nrm_model.specs.Inventory.{inventory_of, products_on}
use Rattle.nrm_model.specs.Demand.{total_to_come}
use Rattle.nrm_lp.specs.declared.certificate.Certificate.{Certificate}
use Rattle.nrm_virtual.specs.Adjusted.{adjusted_fare}
use Rattle.nrm_virtual.specs.Buckets.{bucket_count, bucket_of}

-- the products of a leg in the buckets from one to another, in file order
abbrev pub products_between : NetworkValue → Certificate → ℕ → ℕ → ℕ → List ℕ
products_between net cert leg first last =
    filter (λ product. is_in_range first last (bucket_of net cert leg product)) (products_on (inventory_of net) leg)

-- their demand to come from this period on, over all histories
abbrev pub weight_of : NetworkValue → Certificate → ℕ → ℕ → ℕ → ℕ → ℕ
weight_of net cert leg period first last = sum_by (λ product. total_to_come net product period) (products_between net cert leg first last)

-- the sum of numbers with a sign
abbrev pub sum_of : List ℤ → ℤ
sum_of [] = pos 0
sum_of (x ∷ xs) = x +ℤ sum_of xs

-- their adjusted fares, each as often as its demand to come, over the certificate's denominator
abbrev pub weighted_fares : NetworkValue → Certificate → ℕ → ℕ → ℕ → ℕ → ℤ
weighted_fares net cert leg period first last =
    sum_of (map (λ product. adjusted_fare net cert leg product *ℤ pos (total_to_come net product period))
    (products_between net cert leg first last))

-- their mean fare, where there is demand
abbrev pub mean_fare : NetworkValue → Certificate → ℕ → ℕ → ℕ → ℕ → Fraction
mean_fare net cert leg period first last =
    weighted_fares net cert leg period first last over (weight_of net cert leg period first last * nat_abs cert.den)

-- the fare of a bucket: its mean fare. Without demand it is the bucket's threshold; the last bucket's is 0 without
-- demand, as where its mean is below 0
abbrev pub bucket_fare : NetworkValue → Certificate → ℕ → ℕ → ℕ → Fraction
bucket_fare net cert leg period bucket =
    if nat_lt bucket (bucket_count net leg)
    then (if weight_of net cert leg period bucket bucket == 0 then whole (pos (slice_index (leg_of net leg).cuts (bucket - 1)))
    else mean_fare net cert leg period bucket bucket)
    else (if (weight_of net cert leg period bucket bucket == 0) || int_lt (weighted_fares net cert leg period bucket bucket) (pos 0)
    then whole (pos 0) else mean_fare net cert leg period bucket bucket)
