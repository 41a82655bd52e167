-- How long a whole number of 128 bits is, written down.
use Rattle.std.proofs.Common.{ℕ, ◌^◌, ◌<◌, ◌≤◌, length, arith}
use Rattle.std.specs.Prelude.{decimal}
use Rattle.std.proofs.lemmas.Fmt.{length-decimal-le_wide}

pub short_whole : (n : ℕ) → n < 2 ^ 128 → length (decimal n) ≤ 39
short_whole n small = length-decimal-le_wide 39 n (omega arith) (omega (arith, small)) (omega (arith, small))
