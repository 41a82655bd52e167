-- Numbers below the limit, and positive ones.
use Rattle.std.proofs.Common.{◌≡◌, zero, suc, ◌<◌, ℤ, pos, negsuc, ◌<ℤ◌, nat_abs, arith, refl, leb, false, leb-false}
use Rattle.std.proofs.lemmas.Int.{ints}
use mir.Syntax.{w64}
use mir.Val.{to_z, of_z}
use Rattle.nrm_fraction.specs.Large.{IsSmall, size_limit}

-- a number below the limit is the same at 64 bits
pub small_fits : (n : ℤ) → leb size_limit (nat_abs n) ≡ false → to_z w64 (of_z w64 n) ≡ n
small_fits n h = let l : nat_abs n < size_limit = omega (arith, leb-false size_limit (nat_abs n) h) in omega (arith, ints)

pub small_same : (n : ℤ) → IsSmall n → to_z w64 (of_z w64 n) ≡ n
small_same n h = omega (arith, ints)

pub positive_abs : (d : ℤ) → pos 0 <ℤ d → (d ≡ pos (nat_abs d)) × (0 < nat_abs d)
positive_abs (pos zero) h = absurd (omega (arith, ints))
positive_abs (pos (suc n)) h = (refl, omega arith)
positive_abs (negsuc n) h = absurd (omega (arith, ints))
