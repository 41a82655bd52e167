-- The nests of a plan: the bucket of each product on each of its legs, and the protections of each leg.
use Rattle.std.specs.Prelude.{ℕ, zero, suc, ◌≡◌, List, length, map, slice_index}
use Rattle.std.specs.List.{range_with_len}
use Rattle.nrm_model.specs.Network.{NetworkValue}
use Rattle.nrm_lp.specs.declared.certificate.Certificate.{Certificate}
use Rattle.nrm_virtual.specs.Table.{IsTableOf, TableValue}
use Rattle.nrm_emsr.specs.Protections.{protections_of}

-- leg by leg: its products with their buckets, and the seats that are protected for its buckets 1 to each but the last
pub record NestsValue : Type 0 where
  pub buckets : TableValue
  pub protections : List (List ℕ)

-- they are those of a network at these bid prices, from this period on
pub record AreNestsOf (net : NetworkValue) (period : ℕ) (cert : Certificate) (nests : NestsValue) : Type 0 where
  pub buckets : IsTableOf net cert nests.buckets
  pub protections : nests.protections ≡ map (λ leg. protections_of net cert leg period) (range_with_len 0 (length net.legs))

-- the seats protected for buckets 1 to this one, among those of a leg; none are for no bucket
abbrev pub level_at : List ℕ → ℕ → ℕ
level_at levels zero = 0
level_at levels (suc bucket) = slice_index levels bucket
