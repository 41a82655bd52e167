-- The buckets and the protections of two networks that differ in their physical seats alone.
use Rattle.std.proofs.Common.{ℕ, zero, suc, ◌≡◌, ◌∙◌, ◌+◌, ◌-◌, ◌*◌, ◌==◌, ◌||◌, List, filter, length, map, max, sum_by, slice_index, nat_lt, refl}
use Rattle.std.specs.Prelude.{pos, nat_abs, ◌*ℤ◌, int_lt, if◌then◌else◌}
use Rattle.std.specs.Int.{is_in_range}
use Rattle.std.specs.List.{count_by, range_with_len}
use Rattle.nrm_fraction.specs.Fraction.{◌over◌, whole}
use Rattle.nrm_model.specs.declared.leg.Leg.{Leg}
use Rattle.nrm_model.specs.Demand.{demand_to_come, total_to_come}
use Rattle.nrm_model.specs.Inventory.{inventory_of, products_on}
use Rattle.nrm_model.specs.Network.{NetworkValue}
use Rattle.nrm_lp.specs.declared.certificate.Certificate.{Certificate}
use Rattle.nrm_virtual.specs.Adjusted.{adjusted_fare}
use Rattle.nrm_virtual.specs.Buckets.{bucket_count, bucket_of, bucket_of_fare}
use Rattle.nrm_virtual.specs.Table.{IsTableOf, TableValue, nest_of}
use Rattle.nrm_emsr.specs.Fares.{bucket_fare, mean_fare, products_between, sum_of, weight_of, weighted_fares}
use Rattle.nrm_emsr.specs.Protections.{at_most, demand_above, histories_over, least_from, protection_of, protections_of, seats_enough, suffices}
use Rattle.nrm_model.proofs.SeatlessLegs.{AreSameLegs, with_legs, authorised-same, count-same, cuts-same}

module _ (net : NetworkValue) (legs : List Leg) (same : AreSameLegs net.legs legs) (cert : Certificate) where
  abbrev other : NetworkValue
  other = with_legs net legs

  -- ---- buckets
  pub bucket-same : (i j : ℕ) → bucket_of net cert i j ≡ bucket_of other cert i j
  bucket-same i j = λ m. bucket_of_fare (adjusted_fare net cert i j) (nat_abs cert.den) (cuts-same net legs same i m)

  bucket_count-same : (i : ℕ) → bucket_count net i ≡ bucket_count other i
  bucket_count-same i = λ m. length (cuts-same net legs same i m) + 1

  nest-same : (i : ℕ) → nest_of net cert i ≡ nest_of other cert i
  nest-same i = λ m. map (λ j. (j, bucket-same i j m)) (products_on (inventory_of net) i)

  pub table-same : (table : TableValue) → IsTableOf net cert table → IsTableOf other cert table
  table-same table is = is ∙ (λ m. map (λ i. (i, nest-same i m)) (range_with_len 0 (count-same net legs same m)))

  -- ---- fares
  between-same : (i first last : ℕ) → products_between net cert i first last ≡ products_between other cert i first last
  between-same i first last = λ m. filter (λ j. is_in_range first last (bucket-same i j m)) (products_on (inventory_of net) i)

  weight-same : (i k first last : ℕ) → weight_of net cert i k first last ≡ weight_of other cert i k first last
  weight-same i k first last = λ m. sum_by (λ j. total_to_come net j k) (between-same i first last m)

  weighted-same : (i k first last : ℕ) → weighted_fares net cert i k first last ≡ weighted_fares other cert i k first last
  weighted-same i k first last =
      λ m. sum_of (map (λ j. adjusted_fare net cert i j *ℤ pos (total_to_come net j k)) (between-same i first last m))

  mean-same : (i k first last : ℕ) → mean_fare net cert i k first last ≡ mean_fare other cert i k first last
  mean-same i k first last = λ m. weighted-same i k first last m over (weight-same i k first last m * nat_abs cert.den)

  fare-same : (i k b : ℕ) → bucket_fare net cert i k b ≡ bucket_fare other cert i k b
  fare-same i k b = λ m.
      if nat_lt b (bucket_count-same i m)
      then (if weight-same i k b b m == 0 then whole (pos (slice_index (cuts-same net legs same i m) (b - 1))) else mean-same i k b b m)
      else (if (weight-same i k b b m == 0) || int_lt (weighted-same i k b b m) (pos 0) then whole (pos 0) else mean-same i k b b m)

  -- ---- protections
  above-same : (i k b h : ℕ) → demand_above net cert i k b h ≡ demand_above other cert i k b h
  above-same i k b h = λ m. sum_by (λ j. demand_to_come net j h k) (between-same i 1 b m)

  over-same : (i k b y : ℕ) → histories_over net cert i k b y ≡ histories_over other cert i k b y
  over-same i k b y = λ m. count_by (λ h. nat_lt y (above-same i k b h m)) (range_with_len 0 net.histories)

  suffices-same : (i k b y : ℕ) → suffices net cert i k b y ≡ suffices other cert i k b y
  suffices-same i k b y = λ m. at_most (over-same i k b y m) (mean-same i k 1 b m) net.histories (fare-same i k (b + 1) m)

  enough-same : (i k b : ℕ) → seats_enough net cert i k b ≡ seats_enough other cert i k b
  enough-same i k b =
      λ m. if weight-same i k 1 b m == 0 then 0 else least_from (λ y. suffices-same i k b y m) (authorised-same net legs same i m) 0

  pub protection-same : (i k b : ℕ) → protection_of net cert i k b ≡ protection_of other cert i k b
  protection-same i k zero = refl
  protection-same i k (suc b) = λ m. max (protection-same i k b m) (enough-same i k (suc b) m)

  pub protections-same : (i k : ℕ) → protections_of net cert i k ≡ protections_of other cert i k
  protections-same i k = λ m. map (λ b. protection-same i k b m) (range_with_len 1 (bucket_count-same i m - 1))
