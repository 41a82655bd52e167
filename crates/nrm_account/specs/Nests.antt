-- Under virtual nesting: the bucket of a product on a leg, and where the seats that are protected from it come from.
use Rattle.std.specs.Prelude.{ℕ, ◌+◌, ◌-◌, ◌==◌, List, [], ◌++◌, codes, decimal, flat_map, nat_abs, nat_le, nat_lt, position, slice_index}
use Rattle.std.specs.Prelude.{if◌then◌else◌}
use Rattle.std.specs.Option.{option_map_or}
use Rattle.std.specs.List.{range_with_len}
use Rattle.nrm_fraction.specs.Fraction.{◌over◌}
use Rattle.nrm_text.specs.Fractions.{fraction_text}
use Rattle.nrm_text.specs.Words.{spaced}
use Rattle.nrm_model.specs.Network.{NetworkValue, leg_of}
use Rattle.nrm_lp.specs.declared.certificate.Certificate.{Certificate}
use Rattle.nrm_virtual.specs.Adjusted.{adjusted_fare}
use Rattle.nrm_virtual.specs.Buckets.{bucket_count, bucket_of}
use Rattle.nrm_emsr.specs.Fares.{bucket_fare, mean_fare, weight_of}
use Rattle.nrm_emsr.specs.Protections.{demand_above, histories_over, protection_of, protections_of}
use Rattle.nrm_account.specs.Lines.{counted, ended}

-- the bounds of a bucket among thresholds: it is from its own threshold on, which the last bucket doesn't have, and below the one before
-- it, which the first doesn't have
abbrev pub from_text : List ℕ → ℕ → ℕ → List ℕ
from_text cuts buckets bucket = if nat_lt bucket buckets then counted (codes "from") (slice_index cuts (bucket - 1)) else []

abbrev pub below_text : List ℕ → ℕ → List ℕ
below_text cuts bucket = if nat_lt 1 bucket then counted (codes "below") (slice_index cuts (bucket - 2)) else []

-- the adjusted fare of a product on a leg, its bucket, of how many, and the bucket's bounds
abbrev pub nest_line : NetworkValue → Certificate → ℕ → ℕ → List ℕ
nest_line net cert leg product =
    ended (codes "nest" ++ spaced (leg_of net leg).name ++ spaced (codes "fare")
    ++ spaced (fraction_text (adjusted_fare net cert leg product over nat_abs cert.den))
    ++ counted (codes "bucket") (bucket_of net cert leg product) ++ counted (codes "of") (bucket_count net leg)
    ++ from_text (leg_of net leg).cuts (bucket_count net leg) (bucket_of net cert leg product)
    ++ below_text (leg_of net leg).cuts (bucket_of net cert leg product))

-- what the seats that are enough for buckets 1 to this one are found from: their mean fare, the fare of the next bucket, and how many of
-- the histories have more demand for those buckets than these seats
abbrev pub enough_line : NetworkValue → Certificate → ℕ → ℕ → ℕ → List ℕ
enough_line net cert leg period bucket =
    ended (codes "enough" ++ spaced (leg_of net leg).name ++ counted (codes "seats") (protection_of net cert leg period bucket)
    ++ counted (codes "buckets") bucket ++ spaced (codes "mean") ++ spaced (fraction_text (mean_fare net cert leg period 1 bucket))
    ++ spaced (codes "next") ++ spaced (fraction_text (bucket_fare net cert leg period (bucket + 1)))
    ++ counted (codes "histories") net.histories
    ++ counted (codes "over") (histories_over net cert leg period bucket (protection_of net cert leg period bucket)))

-- the demand to come for buckets 1 to this one, history by history
abbrev pub demand_line : NetworkValue → Certificate → ℕ → ℕ → ℕ → List ℕ
demand_line net cert leg period bucket =
    ended (codes "demand" ++ spaced (leg_of net leg).name
    ++ flat_map (λ history. spaced (decimal (demand_above net cert leg period bucket history))) (range_with_len 0 net.histories))

-- both, where those buckets have demand
abbrev pub basis_text : NetworkValue → Certificate → ℕ → ℕ → ℕ → List ℕ
basis_text net cert leg period bucket =
    if weight_of net cert leg period 1 bucket == 0 then []
    else (enough_line net cert leg period bucket ++ demand_line net cert leg period bucket)

-- The seats that are protected for buckets 1 to `last`, if there are some, are those that are enough for some first buckets: the first for which
-- as many are protected.
abbrev pub protected_text : NetworkValue → Certificate → ℕ → ℕ → ℕ → List ℕ
protected_text net cert leg period last =
    if protection_of net cert leg period last == 0 then []
    else option_map_or (λ place. basis_text net cert leg period (place + 1))
    (position (λ seats. nat_le (protection_of net cert leg period last) seats) (protections_of net cert leg period)) []

-- all of that for a product on a leg, at bid prices and from a period on
abbrev pub nest_text : NetworkValue → Certificate → ℕ → ℕ → ℕ → List ℕ
nest_text net cert period leg product =
    nest_line net cert leg product ++ protected_text net cert leg period (bucket_of net cert leg product - 1)
