-- Examples at closed fractions: the operations, a list over its least common denominator, and Large lists.
use Rattle.std.proofs.Common.{◌≡◌, pos, negsuc, refl, true, [], ◌∷◌, Some, None}
use Rattle.nrm_number.specs.Gcd.{gcd, lcm, in_lowest_terms}
use Rattle.nrm_fraction.specs.Fraction.{◌over◌, ◌+ᶠ◌, ◌*ᶠ◌, ◌-ᶠ◌, ◌/ᶠ◌, inverse, negative, less, whole}
use Rattle.nrm_fraction.specs.declared.TheConstants.{SIZE_LIMIT}
use Rattle.nrm_fraction.specs.Large.{common, numerators, large_number, first_too_large, size_limit}
use Rattle.nrm_fraction.specs.Lex.{lex_below}
use Rattle.nrm_fraction.specs.Rows.{row_of, unit_row, combine, ratio_columns, ratios}

half_and_third : pos 1 over 2 +ᶠ pos 1 over 3 ≡ pos 5 over 6
unfolding ◌over◌ ◌+ᶠ◌ gcd in_lowest_terms
half_and_third = refl

two_quarters : pos 2 over 4 ≡ pos 1 over 2
unfolding ◌over◌ gcd in_lowest_terms
two_quarters = refl

quotient_of_difference : (pos 355 over 113 -ᶠ pos 22 over 7) /ᶠ (negsuc 4 over 10) ≡ pos 2 over 791
unfolding ◌over◌ ◌+ᶠ◌ ◌*ᶠ◌ inverse negative gcd in_lowest_terms
quotient_of_difference = refl

closer_to_pi : less (pos 355 over 113) (pos 22 over 7) ≡ true
unfolding ◌over◌ less gcd in_lowest_terms
closer_to_pi = refl

long_product : (pos 281474976710656 over 99999999) *ᶠ (pos 99999999 over 281474976710655) ≡ pos 281474976710656 over 281474976710655
unfolding ◌over◌ ◌*ᶠ◌ gcd in_lowest_terms
long_product = refl

-- ---- over the least common denominator, and Large at 2^48
over_twelve : numerators (common (pos 5 over 6 ∷ negsuc 0 over 4 ∷ pos 2 over 1 ∷ [])) (pos 5 over 6 ∷ negsuc 0 over 4 ∷ pos 2 over 1 ∷ []) ≡ pos 10 ∷ negsuc 2 ∷ pos 24 ∷ []
unfolding ◌over◌ gcd lcm in_lowest_terms
over_twelve = refl

large_numerator : large_number size_limit (pos 1 over 2 ∷ negsuc 281474976710655 over 3 ∷ []) ≡ Some (negsuc 562949953421311)
unfolding ◌over◌ gcd lcm in_lowest_terms
large_numerator = refl

large_denominator : large_number size_limit (pos 281474976710657 over 1 ∷ pos 1 over 281474976710656 ∷ []) ≡ Some (pos 281474976710656)
unfolding ◌over◌ gcd lcm in_lowest_terms
large_denominator = refl

not_large : large_number size_limit (pos 281474976710655 over 1 ∷ negsuc 281474976710654 over 1 ∷ []) ≡ None
unfolding ◌over◌ gcd lcm in_lowest_terms
not_large = refl

-- the code's limit is that of the definitions
limit_of_code : SIZE_LIMIT ≡ size_limit
limit_of_code = refl

-- over 6 the numerators are 30 and 8, and the denominators on the way are 2 and 6: the denominators come first
large_on_the_way : first_too_large 6 (pos 5 over 1 ∷ pos 1 over 2 ∷ pos 4 over 3 ∷ []) ≡ Some (pos 6)
unfolding ◌over◌ gcd lcm in_lowest_terms
large_on_the_way = refl

large_over_all : first_too_large 7 (pos 5 over 1 ∷ pos 1 over 2 ∷ pos 4 over 3 ∷ []) ≡ Some (pos 30)
unfolding ◌over◌ gcd lcm in_lowest_terms
large_over_all = refl

first_denominator_on_the_way : first_too_large 2 (pos 5 over 1 ∷ pos 1 over 2 ∷ pos 4 over 3 ∷ []) ≡ Some (pos 2)
unfolding ◌over◌ gcd lcm in_lowest_terms
first_denominator_on_the_way = refl

-- ---- rows
unit_of_evens : unit_row 0 (row_of 4 ((0, pos 2) ∷ (1, pos 4) ∷ (3, pos 6) ∷ [])) ≡ row_of 4 ((0, pos 1) ∷ (1, pos 2) ∷ (3, pos 3) ∷ [])
unfolding ◌over◌ ◌*ᶠ◌ inverse whole gcd in_lowest_terms
unit_of_evens = refl

combined_with_unit : combine 0 (row_of 4 ((0, pos 1) ∷ (1, pos 2) ∷ (3, pos 3) ∷ [])) (row_of 4 ((0, pos 1) ∷ (1, pos 1) ∷ (2, pos 1) ∷ (3, pos 5) ∷ [])) ≡ row_of 4 ((1, negsuc 0) ∷ (2, pos 1) ∷ (3, pos 2) ∷ [])
unfolding ◌over◌ ◌+ᶠ◌ ◌*ᶠ◌ negative whole gcd in_lowest_terms
combined_with_unit = refl

-- the right sides tie at 3, and then 1 is below 2
tie_at_right_side : lex_below (ratios (ratio_columns 1 4) 0 (row_of 4 ((0, pos 1) ∷ (1, pos 1) ∷ (2, pos 1) ∷ (3, pos 3) ∷ []))) (ratios (ratio_columns 1 4) 0 (row_of 4 ((0, pos 2) ∷ (1, pos 4) ∷ (3, pos 6) ∷ []))) ≡ true
unfolding ◌over◌ ◌*ᶠ◌ inverse less whole gcd in_lowest_terms
tie_at_right_side = refl
