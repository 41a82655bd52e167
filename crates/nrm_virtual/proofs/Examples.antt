-- Adjusted fares, buckets and tables that a reader can check by hand.
use Rattle.std.specs.Prelude.{◌≡◌, pos, negsuc, [], ◌∷◌, Some, None, codes, refl, map}
use Rattle.std.proofs.Common.{arith}
use Rattle.std.proofs.lemmas.Int.{ints}
use Rattle.nrm_model.specs.Inventory.{inventory_of, products_on}
use Rattle.nrm_model.specs.Network.{NetworkValue}
use Rattle.nrm_lp.specs.declared.certificate.Certificate.{Certificate}
use Rattle.nrm_virtual.specs.Adjusted.{HasPrices, adjusted_fare}
use Rattle.nrm_virtual.specs.Buckets.{bucket_count, bucket_of, bucket_of_fare}
use Rattle.nrm_virtual.specs.Table.{IsTableOf, TableValue, bucket_in}

-- two legs with two thresholds each, and five products
abbrev two_legs_five_products : NetworkValue
two_legs_five_products = record {
  histories = 1;
  periods = 1;
  legs = record { name = codes "AB"; seats = 10; authorised = 10; cuts = 300 ∷ 100 ∷ [] } ∷ record { name = codes "BC"; seats = 10; authorised = 10; cuts = 300 ∷ 100 ∷ [] } ∷ [];
  products = record { name = codes "ABH"; fare = 400; refund = 100; legs = 0 ∷ [] } ∷ record { name = codes "ABL"; fare = 150; refund = 100; legs = 0 ∷ [] }
      ∷ record { name = codes "ACH"; fare = 500; refund = 100; legs = 0 ∷ 1 ∷ [] } ∷ record { name = codes "BCL"; fare = 80; refund = 100; legs = 1 ∷ [] }
      ∷ record { name = codes "ACL"; fare = 229; refund = 100; legs = 0 ∷ 1 ∷ [] } ∷ [];
  demand = [];
}

-- prices of 150 and 80, whole and in thirds
abbrev pub full_seats : Certificate
full_seats = record { q = pos 1; x = pos 12 ∷ pos 12 ∷ pos 16 ∷ pos 24 ∷ pos 0 ∷ []; den = pos 1; p = pos 150 ∷ pos 80 ∷ []; value = pos 16520 }

abbrev pub in_thirds : Certificate
in_thirds = record { q = pos 1; x = []; den = pos 3; p = pos 450 ∷ pos 240 ∷ []; value = pos 0 }

fares_on_first : map (adjusted_fare two_legs_five_products full_seats 0) (products_on (inventory_of two_legs_five_products) 0) ≡ pos 400 ∷ pos 150 ∷ pos 420 ∷ pos 149 ∷ []
fares_on_first = refl

fares_on_second : map (adjusted_fare two_legs_five_products full_seats 1) (products_on (inventory_of two_legs_five_products) 1) ≡ pos 350 ∷ pos 80 ∷ pos 79 ∷ []
fares_on_second = refl

fares_in_thirds : map (adjusted_fare two_legs_five_products in_thirds 0) (products_on (inventory_of two_legs_five_products) 0) ≡ pos 1200 ∷ pos 450 ∷ pos 1260 ∷ pos 447 ∷ []
fares_in_thirds = refl

buckets_in_thirds : map (bucket_of two_legs_five_products in_thirds 1) (products_on (inventory_of two_legs_five_products) 1) ≡ 1 ∷ 3 ∷ 3 ∷ []
buckets_in_thirds = refl

three_buckets : bucket_count two_legs_five_products 0 ≡ 3
three_buckets = refl

-- the legs in file order, each with its products in file order, each with its bucket
whole_table : IsTableOf two_legs_five_products full_seats ((0, (0, 1) ∷ (1, 2) ∷ (2, 1) ∷ (4, 2) ∷ []) ∷ (1, (2, 1) ∷ (3, 3) ∷ (4, 3) ∷ []) ∷ [])
whole_table = refl

abbrev two_nests : TableValue
two_nests = (0, (0, 1) ∷ (4, 2) ∷ []) ∷ (1, (4, 3) ∷ []) ∷ []

found_in_table : map (λ i. bucket_in two_nests i 4) (0 ∷ 1 ∷ 2 ∷ []) ≡ Some 2 ∷ Some 3 ∷ None ∷ []
found_in_table = refl

not_in_nest : bucket_in two_nests 1 0 ≡ None
not_in_nest = refl

-- above a threshold, at it, and just below it
at_threshold : map (λ fare. bucket_of_fare fare 3 (300 ∷ 100 ∷ [])) (pos 901 ∷ pos 900 ∷ pos 899 ∷ pos 300 ∷ pos 299 ∷ negsuc 0 ∷ []) ≡ 1 ∷ 1 ∷ 2 ∷ 2 ∷ 3 ∷ 3 ∷ []
at_threshold = refl

one_bucket : bucket_of_fare (negsuc 5) 1 [] ≡ 1
one_bucket = refl

-- a product that is worth less than its other leg
abbrev pub small_pair : NetworkValue
small_pair = record {
  histories = 2;
  periods = 1;
  legs = record { name = codes "PQ"; seats = 5; authorised = 5; cuts = 40 ∷ [] } ∷ record { name = codes "QR"; seats = 2; authorised = 2; cuts = 200 ∷ [] } ∷ [];
  products = record { name = codes "QRH"; fare = 300; refund = 100; legs = 1 ∷ [] } ∷ record { name = codes "PQL"; fare = 50; refund = 100; legs = 0 ∷ [] } ∷ record { name = codes "PRL"; fare = 120; refund = 100; legs = 0 ∷ 1 ∷ [] } ∷ [];
  demand = 3 ∷ 3 ∷ 2 ∷ 1 ∷ 1 ∷ 1 ∷ [];
}

abbrev pub small_prices : Certificate
small_prices = record { q = pos 1; x = pos 4 ∷ pos 3 ∷ pos 0 ∷ []; den = pos 1; p = pos 0 ∷ pos 300 ∷ []; value = pos 1350 }

below_nought : adjusted_fare small_pair small_prices 0 2 ≡ negsuc 179
below_nought = refl

small_table : IsTableOf small_pair small_prices ((0, (1, 1) ∷ (2, 2) ∷ []) ∷ (1, (0, 1) ∷ (2, 2) ∷ []) ∷ [])
small_table = refl

-- ---- what is asked of the prices: the limit itself, a price below 0 and a denominator of 0 are too much

at_the_limit : (cert : Certificate) → cert.den ≡ pos 7 → HasPrices 7 2 cert → ⊥
at_the_limit cert is has = let below = has.den in absurd (omega (arith, ints))

nought : (cert : Certificate) → cert.den ≡ pos 0 → HasPrices 7 2 cert → ⊥
nought cert is has = let above = has.some_den in absurd (omega (arith, ints))

price_at_the_limit : (cert : Certificate) → cert.p ≡ pos 0 ∷ pos 7 ∷ [] → HasPrices 7 2 cert → ⊥
price_at_the_limit cert is has = let prices = has.prices in let (low, high) = (rw is at prices) 1 (pos 0) (omega arith) in absurd (omega (arith, ints))

price_below_nought : (cert : Certificate) → cert.p ≡ pos 0 ∷ negsuc 0 ∷ [] → HasPrices 7 2 cert → ⊥
price_below_nought cert is has = let prices = has.prices in let (low, high) = (rw is at prices) 1 (pos 0) (omega arith) in absurd (omega (arith, ints))
