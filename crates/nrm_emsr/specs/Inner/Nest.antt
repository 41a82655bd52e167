-- A leg's products as a list, with what was found of each.
use Rattle.std.specs.Prelude.{ℕ, ◌^◌, ◌<◌, List, filter, map, unsigned_abs}
use Rattle.std.specs.Int.{is_in_range}
use Rattle.nrm_model.specs.Network.{NetworkValue}
use Rattle.nrm_model.specs.Inventory.{inventory_of, products_on}
use Rattle.nrm_lp.specs.declared.certificate.Certificate.{Certificate}
use Rattle.nrm_virtual.specs.Adjusted.{adjusted_fare}
use Rattle.nrm_virtual.specs.Buckets.{bucket_of}
use Rattle.nrm_emsr.specs.declared.nest.Nested.{Nested}

-- what is found of a product on a leg, and of all products on it
abbrev pub nested_of : NetworkValue → Certificate → ℕ → ℕ → Nested
nested_of net cert leg product =
    record { product = product; bucket = bucket_of net cert leg product; fare = adjusted_fare net cert leg product }

abbrev pub nest_on : NetworkValue → Certificate → ℕ → List Nested
nest_on net cert leg = map (nested_of net cert leg) (products_on (inventory_of net) leg)

-- its product is one of so many, and its fare within its bound
pub record IsKnown (products : ℕ) (nested : Nested) : Type 0 where
  pub product : nested.product < products
  pub fare : unsigned_abs nested.fare < 2 ^ 75

-- those in the buckets from one to another
abbrev pub in_buckets : List Nested → ℕ → ℕ → List Nested
in_buckets nest first last = filter (λ (nested : Nested). is_in_range first last nested.bucket) nest
