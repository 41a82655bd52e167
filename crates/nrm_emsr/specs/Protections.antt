-- Protection levels: how many seats of a leg are protected for its higher buckets, by the share of the demand histories.
use Rattle.std.specs.Prelude.{ℕ, zero, suc, ◌+◌, ◌-◌, ◌==◌, not, Bool, List, map, max, sum_by, nat_lt, pos, if◌then◌else◌}
use Rattle.std.specs.List.{count_by, range_with_len}
use Rattle.nrm_fraction.specs.Fraction.{Fraction, ◌*ᶠ◌, less, whole}
use Rattle.nrm_model.specs.Network.{NetworkValue, leg_of}
use Rattle.nrm_model.specs.Demand.{demand_to_come}
use Rattle.nrm_lp.specs.declared.certificate.Certificate.{Certificate}
use Rattle.nrm_virtual.specs.Buckets.{bucket_count}
use Rattle.nrm_emsr.specs.Fares.{bucket_fare, mean_fare, products_between, weight_of}

-- the demand to come of buckets 1 to this one in a history
abbrev pub demand_above : NetworkValue → Certificate → ℕ → ℕ → ℕ → ℕ → ℕ
demand_above net cert leg period bucket history =
    sum_by (λ product. demand_to_come net product history period) (products_between net cert leg 1 bucket)

-- how many histories have more than y of it
abbrev pub histories_over : NetworkValue → Certificate → ℕ → ℕ → ℕ → ℕ → ℕ
histories_over net cert leg period bucket y =
    count_by (λ history. nat_lt y (demand_above net cert leg period bucket history)) (range_with_len 0 net.histories)

-- m times a fraction is at most n times another
abbrev pub at_most : ℕ → Fraction → ℕ → Fraction → Bool
at_most m x n y = not (less (whole (pos n) *ᶠ y) (whole (pos m) *ᶠ x))

-- y seats suffice for buckets 1 to this one: their mean fare, times the share of the histories that have more than y of their
-- demand, is at most the fare of the next bucket
abbrev pub suffices : NetworkValue → Certificate → ℕ → ℕ → ℕ → ℕ → Bool
suffices net cert leg period bucket y =
    at_most (histories_over net cert leg period bucket y) (mean_fare net cert leg period 1 bucket)
    net.histories (bucket_fare net cert leg period (bucket + 1))

-- the first of n numbers from y on that passes a test, and the number after them where none does
abbrev pub least_from : (ℕ → Bool) → ℕ → ℕ → ℕ
least_from test zero y = y
least_from test (suc n) y = if test y then y else least_from test n (y + 1)

-- the least number of seats that suffices for buckets 1 to this one, and the leg's authorised seats where no lower number does; 0 where
-- those buckets have no demand
abbrev pub seats_enough : NetworkValue → Certificate → ℕ → ℕ → ℕ → ℕ
seats_enough net cert leg period bucket =
    if weight_of net cert leg period 1 bucket == 0 then 0 else least_from (suffices net cert leg period bucket) (leg_of net leg).authorised 0

-- the seats that are protected for buckets 1 to this one: enough for them, and never fewer than for fewer buckets
abbrev pub protection_of : NetworkValue → Certificate → ℕ → ℕ → ℕ → ℕ
protection_of net cert leg period zero = 0
protection_of net cert leg period (suc bucket) =
    max (protection_of net cert leg period bucket) (seats_enough net cert leg period (suc bucket))

-- the protections of a leg, for each bucket but the last
abbrev pub protections_of : NetworkValue → Certificate → ℕ → ℕ → List ℕ
protections_of net cert leg period = map (protection_of net cert leg period) (range_with_len 1 (bucket_count net leg - 1))
