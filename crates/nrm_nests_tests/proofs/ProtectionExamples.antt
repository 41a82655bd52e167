-- Bucket fares and protections that a reader can check by hand.
use Rattle.std.specs.Prelude.{ℕ, ◌≡◌, ◌==◌, ◌||◌, true, false, pos, [], ◌∷◌, codes, refl, map}
use Rattle.std.proofs.Common.{arith}
use Rattle.nrm_number.specs.Gcd.{gcd, in_lowest_terms}
use Rattle.nrm_fraction.specs.Fraction.{◌over◌, ◌*ᶠ◌, less, whole}
use Rattle.nrm_model.specs.Network.{NetworkValue}
use Rattle.nrm_lp.specs.declared.certificate.Certificate.{Certificate}
use Rattle.nrm_samples.specs.Networks.{two_legs_five_products}
use Rattle.nrm_emsr.specs.Fares.{bucket_fare, mean_fare, products_between, weight_of, weighted_fares}
use Rattle.nrm_emsr.specs.Inner.Ranked.{Falls, greatest_count}
use Rattle.nrm_emsr.specs.Protections.{at_most, histories_over, least_from, protections_of, seats_enough}

abbrev pub prices_at : ℕ → ℕ → Certificate
prices_at first second = record { q = pos 1; x = []; den = pos 1; p = pos first ∷ pos second ∷ []; value = pos 0 }

-- ---- two legs and five products, at prices of 150 and 80
between : products_between two_legs_five_products (prices_at 150 80) 1 2 3 ≡ 3 ∷ 4 ∷ []
between = refl

demand_in_buckets : map (λ b. weight_of two_legs_five_products (prices_at 150 80) 1 1 b b) (1 ∷ 2 ∷ 3 ∷ []) ≡ 16 ∷ 0 ∷ 32 ∷ []
demand_in_buckets = refl

fares_in_buckets : map (λ b. weighted_fares two_legs_five_products (prices_at 150 80) 1 1 b b) (1 ∷ 2 ∷ 3 ∷ []) ≡ pos 5600 ∷ pos 0 ∷ pos 2560 ∷ []
fares_in_buckets = refl

-- a mean, the threshold of an empty bucket, and the last bucket's mean
fares_on_second : map (bucket_fare two_legs_five_products (prices_at 150 80) 1 1) (1 ∷ 2 ∷ 3 ∷ []) ≡ whole (pos 350) ∷ whole (pos 100) ∷ whole (pos 80) ∷ []
unfolding ◌over◌ whole gcd in_lowest_terms
fares_on_second = refl

-- by the demand to come, which is 12 of 400 and 16 of 420
weighted_mean : mean_fare two_legs_five_products (prices_at 150 80) 0 1 1 1 ≡ pos 2880 over 7
unfolding ◌over◌ gcd in_lowest_terms
weighted_mean = refl

more_than : map (histories_over two_legs_five_products (prices_at 150 80) 0 1 1) (5 ∷ 6 ∷ 7 ∷ 8 ∷ 9 ∷ []) ≡ 4 ∷ 2 ∷ 1 ∷ 1 ∷ 0 ∷ []
more_than = refl

protected_on_first : protections_of two_legs_five_products (prices_at 150 80) 0 1 ≡ 7 ∷ 10 ∷ []
unfolding ◌over◌ ◌*ᶠ◌ less whole gcd in_lowest_terms
protected_on_first = refl

protected_on_second : protections_of two_legs_five_products (prices_at 150 80) 1 1 ≡ 4 ∷ 6 ∷ []
unfolding ◌over◌ ◌*ᶠ◌ less whole gcd in_lowest_terms
protected_on_second = refl

-- ---- a fraction times a count: equal is at most
sides : map (λ m. at_most m (pos 200 over 1) 2 (pos 100 over 1)) (0 ∷ 1 ∷ 2 ∷ []) ≡ true ∷ true ∷ false ∷ []
unfolding ◌over◌ ◌*ᶠ◌ less whole gcd in_lowest_terms
sides = refl

-- the first of so many numbers that passes, and the number after them
first_passes : least_from (λ y. y == 3) 5 1 ≡ 3
first_passes = refl

none_passes : least_from (λ y. false) 5 1 ≡ 6
none_passes = refl

-- the greatest count that passes, whatever lower ones do, up to all, and 0 where none does
greatest_passes : map (λ last. greatest_count (λ count. (count == 2) || (count == last)) 4) (3 ∷ 4 ∷ 5 ∷ []) ≡ 3 ∷ 4 ∷ 2 ∷ []
greatest_passes = refl

no_count_passes : greatest_count (λ count. false) 4 ≡ 0
no_count_passes = refl

-- equal numbers fall, and rising ones don't
equal_fall : Falls (2 ∷ 2 ∷ [])
equal_fall i j d low short = let first : i ≡ 0 = omega arith in let second : j ≡ 1 = omega arith in rw (first, second) (omega arith)

rising_fail : Falls (1 ∷ 2 ∷ []) → ⊥
rising_fail falls = omega (arith, falls 0 1 0 (omega arith) (omega arith))

-- ---- a through product that is worth less than its second leg: the last bucket's mean is below 0
abbrev pub small_pair : NetworkValue
small_pair = record {
  histories = 2;
  periods = 1;
  legs = record { name = codes "PQ"; seats = 5; authorised = 5; cuts = 40 ∷ [] } ∷ record { name = codes "QR"; seats = 2; authorised = 2; cuts = 200 ∷ [] } ∷ [];
  products = record { name = codes "QRH"; fare = 300; refund = 100; legs = 1 ∷ [] } ∷ record { name = codes "PQL"; fare = 50; refund = 100; legs = 0 ∷ [] } ∷ record { name = codes "PRL"; fare = 120; refund = 100; legs = 0 ∷ 1 ∷ [] } ∷ [];
  demand = 3 ∷ 3 ∷ 2 ∷ 1 ∷ 1 ∷ 1 ∷ [];
}

last_is_nought : bucket_fare small_pair (prices_at 0 300) 0 1 2 ≡ whole (pos 0)
unfolding ◌over◌ whole gcd in_lowest_terms
last_is_nought = refl

protected_pair : map (λ i. protections_of small_pair (prices_at 0 300) i 1) (0 ∷ 1 ∷ []) ≡ (2 ∷ []) ∷ (2 ∷ []) ∷ []
unfolding ◌over◌ ◌*ᶠ◌ less whole gcd in_lowest_terms
protected_pair = refl

-- ---- behind the only bucket with demand, of four and eight seats, the last one is empty, and its fare is nought
abbrev pub last_empty : NetworkValue
last_empty = record {
  histories = 2;
  periods = 1;
  legs = record { name = codes "AB"; seats = 10; authorised = 10; cuts = 100 ∷ [] } ∷ [];
  products = record { name = codes "TOP"; fare = 150; refund = 100; legs = 0 ∷ [] } ∷ [];
  demand = 4 ∷ 8 ∷ [];
}

all_demand : protections_of last_empty (prices_at 0 0) 0 1 ≡ 8 ∷ []
unfolding ◌over◌ ◌*ᶠ◌ less whole gcd in_lowest_terms
all_demand = refl

-- ---- the same demand of four and eight, on a leg with other seats than authorised seats: fewer are authorised than there are, more
-- are, more than the demand are, and none is. The authorised seats are the most that is protected, and the physical ones never tell
abbrev pub with_seats : ℕ → ℕ → NetworkValue
with_seats seats authorised = record last_empty { legs = record { name = codes "AB"; seats = seats; authorised = authorised; cuts = 100 ∷ [] } ∷ [] }

capped_by_authorised : (protections_of (with_seats 10 6) (prices_at 0 0) 0 1 ≡ 6 ∷ []) × (protections_of (with_seats 5 7) (prices_at 0 0) 0 1 ≡ 7 ∷ [])
    × (protections_of (with_seats 5 9) (prices_at 0 0) 0 1 ≡ 8 ∷ []) × (protections_of (with_seats 10 0) (prices_at 0 0) 0 1 ≡ 0 ∷ [])
unfolding ◌over◌ ◌*ᶠ◌ less whole gcd in_lowest_terms
capped_by_authorised = (refl, refl, refl, refl)

-- ---- a leg on which the second bucket alone would need fewer seats than the first, and one whose thresholds stand in
-- for empty buckets, up to the authorised seats
abbrev pub edges : NetworkValue
edges = record {
  histories = 2;
  periods = 1;
  legs = record { name = codes "GH"; seats = 600; authorised = 600; cuts = 1000 ∷ 300 ∷ [] } ∷ record { name = codes "AB"; seats = 4; authorised = 4; cuts = 300 ∷ 200 ∷ 100 ∷ [] } ∷ [];
  products = record { name = codes "G1"; fare = 1000; refund = 100; legs = 0 ∷ [] } ∷ record { name = codes "G2"; fare = 300; refund = 100; legs = 0 ∷ [] } ∷ record { name = codes "G3"; fare = 299; refund = 100; legs = 0 ∷ [] } ∷ record { name = codes "TOP"; fare = 300; refund = 100; legs = 1 ∷ [] } ∷ [];
  demand = 10 ∷ 0 ∷ 500 ∷ 5 ∷ 1 ∷ 1 ∷ 2 ∷ 6 ∷ [];
}

enough_alone : map (seats_enough edges (prices_at 0 0) 0 1) (1 ∷ 2 ∷ []) ≡ 10 ∷ 5 ∷ []
unfolding ◌over◌ ◌*ᶠ◌ less whole gcd in_lowest_terms
enough_alone = refl

never_fewer : map (λ i. protections_of edges (prices_at 0 0) i 1) (0 ∷ 1 ∷ []) ≡ (10 ∷ 10 ∷ []) ∷ (2 ∷ 4 ∷ 4 ∷ []) ∷ []
unfolding ◌over◌ ◌*ᶠ◌ less whole gcd in_lowest_terms
never_fewer = refl
