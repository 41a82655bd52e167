-- Examples of the order in which the numbers of a pivot and of a closing are asked.
use Rattle.std.proofs.Common.{◌≡◌, inl, arith, ℕ, zero, suc, pos, negsuc, ℤ, refl, List, [], ◌∷◌, Option, Some, None}
use Rattle.nrm_number.specs.Gcd.{gcd, lcm, in_lowest_terms}
use Rattle.nrm_fraction.specs.Fraction.{◌over◌, ◌+ᶠ◌, ◌*ᶠ◌, inverse, negative, less, whole}
use Rattle.nrm_fraction.specs.Large.{size_limit}
use Rattle.nrm_lp.specs.Program.{ProgramValue}
use Rattle.nrm_lp.specs.Tableau.{Tableau, first_tableau, entering}
use Rattle.nrm_lp.specs.Closing.{closing, value_over}
use Rattle.nrm_lp.specs.Path.{after, next}
use Rattle.nrm_lp.proofs.PathExamples.{network_a}
use Rattle.nrm_lp.specs.Overflow.{Overflows, Closes, pivot_large, closing_large}

-- three legs, and a product on each two of them: each is sold by halves
abbrev pub triangle : ProgramValue
triangle = record { caps = 1 ∷ 1 ∷ 1 ∷ []; bounds = 1 ∷ 1 ∷ 1 ∷ []; fares = 2 ∷ 2 ∷ 2 ∷ []; legs = (0 ∷ 1 ∷ []) ∷ (1 ∷ 2 ∷ []) ∷ (0 ∷ 2 ∷ []) ∷ [] }

-- the tableau after n pivots
abbrev reached : Option Tableau → Tableau
reached None = record { rows = []; value = []; basis = [] }
reached (Some t) = t

abbrev pub reached_by : ProgramValue → ℕ → Tableau
reached_by a n = reached (after a n)

-- what the first n pivots and the one after them say of their numbers
abbrev pub larges : ℕ → ProgramValue → ℕ → List (Option ℤ)
larges limit a zero = pivot_large limit a (first_tableau a) ∷ []
larges limit a (suc n) = pivot_large limit a (reached_by a (suc n)) ∷ larges limit a n

-- the value row's fare reaches 2 at once
triangle_at_two : pivot_large 2 triangle (first_tableau triangle) ≡ Some (negsuc 1)
unfolding ◌over◌ ◌+ᶠ◌ ◌*ᶠ◌ negative inverse less whole gcd lcm in_lowest_terms
triangle_at_two = refl

-- the first three pivots make no 3, and the fourth makes it in the value row
triangle_at_three : larges 3 triangle 3 ≡ Some (pos 3) ∷ None ∷ None ∷ None ∷ []
unfolding ◌over◌ ◌+ᶠ◌ ◌*ᶠ◌ negative inverse less whole gcd lcm in_lowest_terms
triangle_at_three = refl

-- no 4 is made, and the path ends after four pivots, with halves
triangle_at_four : larges 4 triangle 3 ≡ None ∷ None ∷ None ∷ None ∷ []
unfolding ◌over◌ ◌+ᶠ◌ ◌*ᶠ◌ negative inverse less whole gcd lcm in_lowest_terms
triangle_at_four = refl

triangle_ends : entering (reached_by triangle 4) ≡ None
unfolding ◌over◌ ◌+ᶠ◌ ◌*ᶠ◌ negative inverse less whole gcd lcm in_lowest_terms
triangle_ends = refl

triangle_closing : closing triangle (reached_by triangle 4) ≡ record { q = 2; x = 1 ∷ 1 ∷ 1 ∷ []; den = 1; p = 1 ∷ 1 ∷ 1 ∷ [] }
unfolding ◌over◌ ◌+ᶠ◌ ◌*ᶠ◌ negative inverse less whole gcd lcm in_lowest_terms
triangle_closing = refl

triangle_value : value_over triangle (reached_by triangle 4) 1 ≡ 3
unfolding ◌over◌ ◌+ᶠ◌ ◌*ᶠ◌ negative inverse less whole gcd lcm in_lowest_terms
triangle_value = refl

triangle_is_small : closing_large 4 triangle (reached_by triangle 4) ≡ None
unfolding ◌over◌ ◌+ᶠ◌ ◌*ᶠ◌ negative inverse less whole gcd lcm in_lowest_terms
triangle_is_small = refl

-- ---- the order of a pivot: the first one of two legs and five products stands in row 2, the bound of 12 of product 0
-- at 12 its own row is told, which holds 12
a_at_twelve : pivot_large 12 network_a (first_tableau network_a) ≡ Some (pos 12)
unfolding ◌over◌ ◌+ᶠ◌ ◌*ᶠ◌ negative inverse less whole gcd lcm in_lowest_terms
a_at_twelve = refl

-- at 13 row 0, with the 28 seats that are left on its leg: before the 40 and the 32 of rows 1 and 5, and before the
-- value row's fares
a_at_thirteen : pivot_large 13 network_a (first_tableau network_a) ≡ Some (pos 28)
unfolding ◌over◌ ◌+ᶠ◌ ◌*ᶠ◌ negative inverse less whole gcd lcm in_lowest_terms
a_at_thirteen = refl

-- at 41 no constraint row, and the first fare that is left in the value row
a_at_forty_one : pivot_large 41 network_a (first_tableau network_a) ≡ Some (negsuc 149)
unfolding ◌over◌ ◌+ᶠ◌ ◌*ᶠ◌ negative inverse less whole gcd lcm in_lowest_terms
a_at_forty_one = refl

-- ---- a closing that is Large where no pivot is
-- three legs sold by halves and four sold by thirds: over the common 6 the seats of product 5 are 15
abbrev pub halves_and_thirds : ProgramValue
halves_and_thirds = record {
  caps = 1 ∷ 3 ∷ 3 ∷ 1 ∷ 1 ∷ 1 ∷ 1 ∷ [];
  bounds = 3 ∷ 4 ∷ 2 ∷ 3 ∷ 1 ∷ 4 ∷ 1 ∷ [];
  fares = 1 ∷ 2 ∷ 3 ∷ 2 ∷ 2 ∷ 2 ∷ 1 ∷ [];
  legs = (0 ∷ 2 ∷ []) ∷ (3 ∷ 5 ∷ 6 ∷ []) ∷ (3 ∷ 4 ∷ 5 ∷ []) ∷ (4 ∷ 5 ∷ 6 ∷ []) ∷ (3 ∷ 4 ∷ 6 ∷ []) ∷ (1 ∷ 2 ∷ []) ∷ (0 ∷ 1 ∷ []) ∷ [];
}

-- the numbers of the next n pivots, and then that of the closing
abbrev story : ℕ → ProgramValue → ℕ → Tableau → List (Option ℤ)
story limit a zero t = closing_large limit a t ∷ []
story limit a (suc n) t = pivot_large limit a t ∷ story limit a n (reached (next a t))

closing_at_twelve : story 12 halves_and_thirds 7 (first_tableau halves_and_thirds) ≡ None ∷ None ∷ None ∷ None ∷ None ∷ None ∷ None ∷ Some (pos 15) ∷ []
unfolding ◌over◌ ◌+ᶠ◌ ◌*ᶠ◌ negative inverse less whole gcd lcm in_lowest_terms
closing_at_twelve = refl

-- of its closing the running denominators 2, 6, 6 .. are asked first, from the first one on, and behind them the
-- numbers
closing_at_two : closing_large 2 halves_and_thirds (reached_by halves_and_thirds 7) ≡ Some (pos 2)
unfolding ◌over◌ ◌+ᶠ◌ ◌*ᶠ◌ negative inverse less whole gcd lcm in_lowest_terms
closing_at_two = refl

closing_at_four : closing_large 4 halves_and_thirds (reached_by halves_and_thirds 7) ≡ Some (pos 6)
unfolding ◌over◌ ◌+ᶠ◌ ◌*ᶠ◌ negative inverse less whole gcd lcm in_lowest_terms
closing_at_four = refl

-- ---- the seven pivots of two legs and five products and their closing stay below the limit of the code
a_is_small : story size_limit network_a 7 (first_tableau network_a) ≡ None ∷ None ∷ None ∷ None ∷ None ∷ None ∷ None ∷ None ∷ []
unfolding ◌over◌ ◌+ᶠ◌ ◌*ᶠ◌ negative inverse less whole gcd lcm in_lowest_terms
a_is_small = refl

-- 12 + 12 + 16 seats on the first leg and 16 + 24 on the second, at the prices 150 and 80
a_closing : closing network_a (reached_by network_a 7) ≡ record { q = 1; x = 12 ∷ 12 ∷ 16 ∷ 24 ∷ 0 ∷ []; den = 1; p = 150 ∷ 80 ∷ [] }
unfolding ◌over◌ ◌+ᶠ◌ ◌*ᶠ◌ negative inverse less whole gcd lcm in_lowest_terms
a_closing = refl

a_value : value_over network_a (reached_by network_a 7) 1 ≡ 16520
unfolding ◌over◌ ◌+ᶠ◌ ◌*ᶠ◌ negative inverse less whole gcd lcm in_lowest_terms
a_value = refl

-- ---- the relations: with the limit 2 the triangle's first pivot is Large, and a program without fares closes at once
triangle_overflows : Overflows 2 triangle 0 (negsuc 1)
unfolding ◌over◌ ◌+ᶠ◌ ◌*ᶠ◌ negative inverse less whole gcd lcm in_lowest_terms
triangle_overflows = (first_tableau triangle, record { path = refl; small = λ m u l e. absurd (omega (arith, l)) }, inl refl)

abbrev pub fareless : ProgramValue
fareless = record { caps = 1 ∷ []; bounds = 1 ∷ []; fares = 0 ∷ []; legs = (0 ∷ []) ∷ [] }

fareless_closes : Closes 2 fareless 0 (first_tableau fareless)
unfolding ◌over◌ ◌+ᶠ◌ ◌*ᶠ◌ negative inverse less whole gcd lcm in_lowest_terms
fareless_closes = (record { path = refl; small = λ m u l e. absurd (omega (arith, l)) }, refl, refl)
