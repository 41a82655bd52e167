-- Displacement-adjusted fares: what a product brings a leg, once its seats on the other legs are paid for.
use Rattle.std.specs.Prelude.{ℕ, ◌≡◌, ◌*◌, ◌==◌, not, filter, length, All, ℤ, pos, nat_abs, ◌-ℤ◌, ◌≤ℤ◌, ◌<ℤ◌}
use Rattle.nrm_model.specs.Network.{NetworkValue}
use Rattle.nrm_model.specs.Inventory.{inventory_of, fare_of, legs_of}
use Rattle.nrm_lp.specs.declared.certificate.Certificate.{Certificate}
use Rattle.nrm_lp.specs.Certified.{sizes}
use Rattle.nrm_lp.specs.Program.{price_sum}

-- what is asked of a certificate here: a denominator of at least 1, and one price for each leg, none below 0, all of
-- them below the limit. Nothing is asked of its allocation or its value
pub record HasPrices (limit legs : ℕ) (cert : Certificate) : Type 0 where
  pub count : length cert.p ≡ legs
  pub prices : All (λ price. (pos 0 ≤ℤ price) × (price <ℤ pos limit)) cert.p
  pub some_den : pos 0 <ℤ cert.den
  pub den : cert.den <ℤ pos limit

-- the adjusted fare of a product on its leg, over the certificate's denominator: its fare less the bid prices of its
-- other legs
abbrev pub adjusted_fare : NetworkValue → Certificate → ℕ → ℕ → ℤ
adjusted_fare net cert leg product =
    pos (nat_abs cert.den * fare_of (inventory_of net) product)
    -ℤ pos (price_sum (sizes cert.p) (filter (λ other. not (other == leg)) (legs_of (inventory_of net) product)))
