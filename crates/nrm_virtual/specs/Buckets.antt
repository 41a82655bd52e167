-- Buckets: the thresholds of a leg cut the adjusted fares on it, the highest bucket first.
use Rattle.std.specs.Prelude.{ℕ, ◌+◌, ◌*◌, List, length, ℤ, pos, nat_abs, int_lt}
use Rattle.std.specs.List.{count_by}
use Rattle.nrm_model.specs.Network.{NetworkValue, leg_of}
use Rattle.nrm_lp.specs.declared.certificate.Certificate.{Certificate}
use Rattle.nrm_virtual.specs.Adjusted.{adjusted_fare}

-- how many buckets a leg has: one more than its thresholds
abbrev pub bucket_count : NetworkValue → ℕ → ℕ
bucket_count net leg = length (leg_of net leg).cuts + 1

-- the bucket of a fare over a denominator: 1, and one more for each threshold that is greater than the fare
abbrev pub bucket_of_fare : ℤ → ℕ → List ℕ → ℕ
bucket_of_fare fare den cuts = 1 + count_by (λ cut. int_lt fare (pos (cut * den))) cuts

-- the bucket of a product on its leg
abbrev pub bucket_of : NetworkValue → Certificate → ℕ → ℕ → ℕ
bucket_of net cert leg product = bucket_of_fare (adjusted_fare net cert leg product) (nat_abs cert.den) (leg_of net leg).cuts
