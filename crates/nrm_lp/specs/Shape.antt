-- The shape of a certificate: how many numbers it has, and how large they may be. What they show is in `Certified`.
use Rattle.std.specs.Prelude.{ℕ, ◌≡◌, ◌<◌, ℤ, pos, nat_abs, length, All}
use Rattle.nrm_lp.specs.declared.certificate.Certificate.{Certificate}

-- a number that isn't negative, and is below the limit
abbrev pub IsNumber : ℕ → ℤ → Type 0
IsNumber limit n = (k : ℕ) × (n ≡ pos k) × (k < limit)

-- a number for each product and each leg, none of them negative and all below the limit, and denominators of at least 1
pub record HasShape (limit products legs : ℕ) (c : Certificate) : Type 0 where
  pub allocation : length c.x ≡ products
  pub prices : length c.p ≡ legs
  pub q_size : IsNumber limit c.q
  pub x_sizes : All (IsNumber limit) c.x
  pub den_size : IsNumber limit c.den
  pub p_sizes : All (IsNumber limit) c.p
  pub value_size : IsNumber limit c.value
  pub some_q : 0 < nat_abs c.q
  pub some_den : 0 < nat_abs c.den
