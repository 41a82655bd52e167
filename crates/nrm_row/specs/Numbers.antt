-- The whole numbers that a row is made of, and those that it keeps.
use Rattle.nrm_row.specs.declared.limits.TheConstants.{MOST_COLUMNS}
use Rattle.std.specs.Prelude.{ℕ, ◌≡◌, ◌<◌, ℤ, pos, ◌<ℤ◌, ◌≤◌, unsigned_abs, List, length, get_or, All, AllPairs}
use Rattle.std.specs.Int.{IsInRange}
use Rattle.nrm_fraction.specs.Large.{size_limit, IsSmall}
use Rattle.nrm_fraction.specs.Rows.{number_at}

-- columns that rise, each below the width, with numbers below the limit
pub record AreEntries (width : ℕ) (entries : List (ℕ × ℤ)) : Type 0 where
  pub rising : AllPairs (λ (a b : ℕ × ℤ). a.0 < b.0) entries
  pub within : All (λ (e : ℕ × ℤ). e.0 < width) entries
  pub small : All (λ (e : ℕ × ℤ). IsSmall e.1) entries

-- one positive denominator and 1 to `MOST_COLUMNS` numbers, below the limit
pub record IsRow (den : ℤ) (nums : List ℤ) : Type 0 where
  pub positive : pos 0 <ℤ den
  pub small : IsSmall den
  pub smalls : All IsSmall nums
  pub width : IsInRange 1 MOST_COLUMNS (length nums)

-- no number is greater than this in size
abbrev pub IsBounded : ℕ → List ℤ → Type 0
IsBounded most nums = All (λ n. unsigned_abs n ≤ most) nums

-- from one place up to another all numbers are 0
pub record AreNoughts (nums : List ℤ) (from to : ℕ) : Type 0 where
  pub rising : from ≤ to
  pub within : to ≤ length nums
  pub noughts : (c : ℕ) → from ≤ c → c < to → get_or nums c (pos 0) ≡ pos 0

-- a row with a bound on its numbers
pub record IsBoundedRow (den : ℤ) (most : ℕ) (nums : List ℤ) : Type 0 where
  pub row : IsRow den nums
  pub bounded : IsBounded most nums
  pub room : most < size_limit

-- the columns whose number isn't 0, rising, with their numbers
pub record Lists (nums : List ℤ) (entries : List (ℕ × ℤ)) : Type 0 where
  pub rising : AllPairs (λ (a b : ℕ × ℤ). a.0 < b.0) entries
  pub within : All (λ (e : ℕ × ℤ). e.0 < length nums) entries
  pub same : (c : ℕ) → number_at entries c ≡ get_or nums c (pos 0)
  pub each : All (λ (e : ℕ × ℤ). e.1 ≡ get_or nums e.0 (pos 0)) entries

-- a row with a bound, and its columns listed
pub record IsUnit (den : ℤ) (most : ℕ) (nums : List ℤ) (entries : List (ℕ × ℤ)) : Type 0 where
  pub sound : IsBoundedRow den most nums
  pub lists : Lists nums entries
