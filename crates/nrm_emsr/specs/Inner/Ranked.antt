-- Numbers in falling order, and the greatest count that passes a test.
use Rattle.std.specs.Prelude.{ℕ, zero, suc, ◌≤◌, Bool, List, AllPairs, if◌then◌else◌}

-- numbers that fall, or stay
abbrev pub Falls : List ℕ → Type 0
Falls xs = AllPairs (λ earlier later. later ≤ earlier) xs

-- the greatest count from 0 to n that passes, and 0 where none does
abbrev pub greatest_count : (ℕ → Bool) → ℕ → ℕ
greatest_count passes zero = 0
greatest_count passes (suc n) = if passes (suc n) then suc n else greatest_count passes n
