-- An example of a path: the pivots of a program of two legs and five products.
use Rattle.std.proofs.Common.{◌≡◌, ℕ, zero, suc, refl, List, [], ◌∷◌, Option, Some, None}
use Rattle.nrm_number.specs.Gcd.{gcd, in_lowest_terms}
use Rattle.nrm_fraction.specs.Fraction.{Fraction, ◌over◌, ◌+ᶠ◌, ◌*ᶠ◌, inverse, negative, less, whole}
use Rattle.nrm_lp.specs.Program.{ProgramValue}
use Rattle.nrm_lp.specs.Tableau.{Tableau, first_tableau, entering, leaving, pivot}

-- two legs of 40 seats and five products
abbrev pub network_a : ProgramValue
network_a = record { caps = 40 ∷ 40 ∷ []; bounds = 12 ∷ 28 ∷ 16 ∷ 32 ∷ 0 ∷ []; fares = 400 ∷ 150 ∷ 500 ∷ 80 ∷ 229 ∷ []; legs = (0 ∷ []) ∷ (0 ∷ []) ∷ (0 ∷ 1 ∷ []) ∷ (1 ∷ []) ∷ (0 ∷ 1 ∷ []) ∷ [] }

-- the pivots that the rule takes, as (column, row)
abbrev row_of : Option (ℕ × List Fraction) → ℕ
row_of None = 1000
row_of (Some x) = x.0

abbrev steps_at : (ℕ → Tableau → List (ℕ × ℕ)) → ProgramValue → Tableau → Option ℕ → ℕ → List (ℕ × ℕ)
steps_at rest a t None n = []
steps_at rest a t (Some s) n = (s, row_of (leaving a t s)) ∷ rest n (pivot t (row_of (leaving a t s)) s)

abbrev steps : ProgramValue → ℕ → Tableau → List (ℕ × ℕ)
steps a zero t = []
steps a (suc n) t = steps_at (λ k. steps a n) a t (entering t) n

path_a : steps network_a 10 (first_tableau network_a) ≡ (0, 2) ∷ (1, 3) ∷ (2, 0) ∷ (3, 5) ∷ (7, 1) ∷ (8, 1) ∷ (10, 4) ∷ []
unfolding ◌over◌ ◌+ᶠ◌ ◌*ᶠ◌ negative inverse less whole gcd in_lowest_terms
path_a = refl
