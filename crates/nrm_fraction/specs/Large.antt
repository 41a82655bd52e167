-- A list of fractions over its least common denominator, and when it is too large for the code.
use Rattle.std.specs.Prelude.{ℕ, ◌/◌, ◌<◌, ℤ, pos, ◌*ℤ◌, nat_abs, unsigned_abs, List, [], ◌∷◌, ◌++◌, map, Option, Some, None}
use Rattle.std.specs.Prelude.{if◌then◌else◌, nat_le}
use Rattle.nrm_number.specs.Gcd.{gcd, lcm}
use Rattle.nrm_fraction.specs.declared.TheConstants.{SIZE_LIMIT}
use Rattle.nrm_fraction.specs.Fraction.{Fraction, ◌over◌}

-- what a number of a row or of a certificate, and a denominator, stays below in size
abbrev pub size_limit : ℕ
size_limit = SIZE_LIMIT

-- below the limit in size
abbrev pub IsSmall : ℤ → Type 0
IsSmall n = unsigned_abs n < size_limit

-- the least common denominator
abbrev pub common : List Fraction → ℕ
common [] = 1
common (x ∷ xs) = lcm x.den (common xs)

-- the least common denominators of the first fraction, of the first two, and so on to all, where d is that of those before
abbrev pub running : ℕ → List Fraction → List ℤ
running d [] = []
running d (x ∷ xs) = pos (lcm x.den d) ∷ running (lcm x.den d) xs

-- the numerators over a common denominator d
abbrev pub numerators : ℕ → List Fraction → List ℤ
numerators d xs = map (λ x. x.num *ℤ pos (d / x.den)) xs

-- whole numbers over the least common denominator
abbrev pub over_common : List Fraction → List ℕ
over_common xs = map (λ x. nat_abs x) (numerators (common xs) xs)

-- the first number that reaches the limit in size
abbrev pub first_reaching : ℕ → List ℤ → Option ℤ
first_reaching limit [] = None
first_reaching limit (n ∷ ns) = if nat_le limit (nat_abs n) then Some n else first_reaching limit ns

-- the first number that reaches the limit in size: among the running least common denominators of the list, then among the
-- numerators over the last of them
abbrev pub first_too_large : ℕ → List Fraction → Option ℤ
first_too_large limit xs = first_reaching limit (running 1 xs ++ numerators (common xs) xs)

-- the number of a Large list: the denominator first, then the numerators in order; None where it isn't Large
abbrev pub large_number : ℕ → List Fraction → Option ℤ
large_number limit xs = first_reaching limit (pos (common xs) ∷ numerators (common xs) xs)

-- the first of two numbers that is there
abbrev pub first_of_two : Option ℤ → Option ℤ → Option ℤ
first_of_two (Some n) later = Some n
first_of_two None later = later

-- the number of the first of these rows that is Large
abbrev pub first_large : ℕ → List (List Fraction) → Option ℤ
first_large limit [] = None
first_large limit (row ∷ rows) = first_of_two (large_number limit row) (first_large limit rows)

-- ---- a row of whole numbers over one denominator
abbrev pub fractions : ℕ → List ℤ → List Fraction
fractions d ns = map (λ n. n over d) ns

-- the greatest common divisor of d and all the numbers
abbrev pub gcd_all : ℕ → List ℤ → ℕ
gcd_all d [] = d
gcd_all d (n ∷ ns) = gcd (nat_abs n) (gcd_all d ns)
