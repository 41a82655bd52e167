-- What seats that are enough are worked out from, as it is handed on.
use Rattle.std.specs.Prelude.{ℕ, ◌≡◌, ◌+◌, ◌*◌, ◌≤◌, ◌<◌, ◌^◌, map, nat_abs, unsigned_abs}
use Rattle.std.specs.List.{range_with_len}
use Rattle.nrm_fraction.specs.Fraction.{◌over◌}
use Rattle.nrm_model.specs.Network.{NetworkValue}
use Rattle.nrm_lp.specs.declared.certificate.Certificate.{Certificate}
use Rattle.nrm_emsr.specs.Fares.{bucket_fare, weight_of, weighted_fares}
use Rattle.nrm_emsr.specs.Protections.{demand_above}
use Rattle.nrm_emsr.specs.declared.basis.Basis.{Basis}

-- it is that of buckets 1 to this one of a leg, from this period on
pub record IsBasisOf (net : NetworkValue) (cert : Certificate) (leg period bucket : ℕ) (basis : Basis) : Type 0 where
  pub seats : basis.above.seats ≡ weight_of net cert leg period 1 bucket
  pub fares : basis.above.fares ≡ weighted_fares net cert leg period 1 bucket
  pub next : (basis.next.fares over (basis.next.seats * nat_abs cert.den)) ≡ bucket_fare net cert leg period (bucket + 1)
  pub demands : basis.demands.items ≡ map (demand_above net cert leg period bucket) (range_with_len 0 net.histories)
  pub some : 1 ≤ basis.next.seats
  pub above_seats : basis.above.seats < 2 ^ 23
  pub above_fares : unsigned_abs basis.above.fares < 2 ^ 98
  pub next_seats : basis.next.seats < 2 ^ 23
  pub next_fares : unsigned_abs basis.next.fares < 2 ^ 98
