-- Numbers that are drawn one after another, by a linear congruence, from the number that is given.
use Rattle.std.specs.Prelude.{ℕ, zero, suc, ◌+◌, ◌*◌, ◌/◌, ◌%◌, ◌^◌}

-- the state after the next draw
abbrev pub stirred : ℕ → ℕ
stirred z = (z * 1103515245 + 12345) % 2 ^ 31

-- what a draw below m gives, of the state after it
abbrev pub drawn : ℕ → ℕ → ℕ
drawn m z = z / 65536 % m

-- the state after so many draws from a number
unfoldable pub state_after : ℕ → ℕ → ℕ
state_after number zero = number % 2 ^ 31
state_after number (suc n) = stirred (state_after number n)

-- the draw below m that comes after k others
abbrev pub draw_of : ℕ → ℕ → ℕ → ℕ
draw_of number k m = drawn m (state_after number (suc k))
