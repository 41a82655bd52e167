-- The table of the buckets of a network.
use Rattle.std.specs.Prelude.{ℕ, ◌≡◌, ◌+◌, ◌*◌, ◌/◌, ◌==◌, not, List, filter, length, map, nat_eq, slice_index, Option, Some, None, IsSome}
use Rattle.std.specs.List.{range_with_len}
use Rattle.std.specs.Map.{lookup}
use Rattle.nrm_model.specs.Network.{NetworkValue}
use Rattle.nrm_model.specs.Inventory.{inventory_of, products_on}
use Rattle.nrm_lp.specs.declared.certificate.Certificate.{Certificate}
use Rattle.nrm_virtual.specs.Buckets.{bucket_of}

-- legs, each with its products, each with its bucket
abbrev pub TableValue : Type 0
TableValue = List (ℕ × List (ℕ × ℕ))

-- the products of a leg in file order, each with its bucket
abbrev pub nest_of : NetworkValue → Certificate → ℕ → List (ℕ × ℕ)
nest_of net cert leg = map (λ product. (product, bucket_of net cert leg product)) (products_on (inventory_of net) leg)

-- the table of a network and a certificate: the legs in file order
abbrev pub IsTableOf : NetworkValue → Certificate → TableValue → Type 0
IsTableOf net cert table = table ≡ map (λ leg. (leg, nest_of net cert leg)) (range_with_len 0 (length net.legs))

-- the bucket that a table has for a product on a leg, if the pair is there
abbrev pub bucket_in_nest : Option (List (ℕ × ℕ)) → ℕ → Option ℕ
bucket_in_nest None product = None
bucket_in_nest (Some nest) product = lookup (nat_eq product) nest

abbrev pub bucket_in : TableValue → ℕ → ℕ → Option ℕ
bucket_in table leg product = bucket_in_nest (lookup (nat_eq leg) table) product

abbrev pub HasPair : TableValue → ℕ → ℕ → Type 0
HasPair table leg product = IsSome (bucket_in table leg product)

-- ---- how a table is stored: the buckets leg by leg and on each leg product by product, of so many products, and 0 where a product
-- doesn't use the leg
abbrev pub nest_in : ℕ → List ℕ → ℕ → List (ℕ × ℕ)
nest_in products buckets leg =
    map (λ product. (product, slice_index buckets (leg * products + product)))
    (filter (λ product. not (slice_index buckets (leg * products + product) == 0)) (range_with_len 0 products))

abbrev pub table_in : ℕ → List ℕ → TableValue
table_in products buckets = map (λ leg. (leg, nest_in products buckets leg)) (range_with_len 0 (length buckets / products))
