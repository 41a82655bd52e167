-- A certificate that a reader can work out: two products and two legs, over five histories.
use Rattle.std.proofs.Common.{◌≡◌, ◌<◌, ℕ, pos, negsuc, ℤ, refl, arith, [], ◌∷◌, All, zero, suc}
use Rattle.nrm_number.specs.Gcd.{gcd, in_lowest_terms}
use Rattle.nrm_fraction.specs.Fraction.{◌over◌}
use Rattle.nrm_lp.specs.declared.certificate.Certificate.{Certificate}
use Rattle.nrm_lp.specs.Shape.{IsNumber, HasShape}
use Rattle.nrm_lp.specs.Means.{bid_price, mean_allocation, mean_value}

abbrev of_q : ℤ → Certificate
of_q q = record { q = q; x = pos 6 ∷ pos 7 ∷ []; den = pos 4; p = pos 10 ∷ pos 6 ∷ []; value = pos 90 }

-- the value 90/4 of all histories is 9/2 each, the second product's 7/3 seats are 7/15 each, and the second leg's bid
-- price 6/4 is 3/2
value_of_a_history : mean_value 5 (of_q (pos 3)) ≡ pos 9 over 2
unfolding ◌over◌ gcd in_lowest_terms
value_of_a_history = refl

allotted_in_a_history : mean_allocation 5 (of_q (pos 3)) 1 ≡ pos 7 over 15
unfolding ◌over◌ gcd in_lowest_terms
allotted_in_a_history = refl

price_of_a_seat : bid_price (of_q (pos 3)) 1 ≡ pos 3 over 2
unfolding ◌over◌ gcd in_lowest_terms
price_of_a_seat = refl

-- its greatest number is 90: it has the shape at the limit 91, and not at 90
two_below : (limit m n : ℕ) → m < limit → n < limit → All (IsNumber limit) (pos m ∷ pos n ∷ [])
two_below limit m n h k zero d l = (m, refl, h)
two_below limit m n h k (suc zero) d l = (n, refl, k)
two_below limit m n h k (suc (suc i)) d l = absurd (omega (arith, l))

has_shape : HasShape 91 2 2 (of_q (pos 3))
has_shape = record {
  allocation = refl;
  prices = refl;
  q_size = (3, refl, omega arith);
  x_sizes = two_below 91 6 7 (omega arith) (omega arith);
  den_size = (4, refl, omega arith);
  p_sizes = two_below 91 10 6 (omega arith) (omega arith);
  value_size = (90, refl, omega arith);
  some_q = omega arith;
  some_den = omega arith;
}

same_size : (m n : ℕ) → pos m ≡ pos n → m ≡ n
same_size m n e = cc

at_the_limit : (n : ℕ) → IsNumber n (pos n) → ⊥
at_the_limit n (k, e, l) = absurd (omega (arith, same_size n k e, l))

below_nought : (limit n : ℕ) → IsNumber limit (negsuc n) → ⊥
below_nought limit n (k, e, l) = cc

at_its_greatest : HasShape 90 2 2 (of_q (pos 3)) → ⊥
at_its_greatest h = at_the_limit 90 h.value_size

of_nought : HasShape 91 2 2 (of_q (pos 0)) → ⊥
of_nought h = absurd (omega (arith, h.some_q))
