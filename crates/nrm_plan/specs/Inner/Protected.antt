-- The seats that are protected from each product on each leg, in one list.
use Rattle.std.specs.Prelude.{ℕ, ◌≡◌, ◌+◌, ◌-◌, ◌*◌, ◌<◌, List, [], Some, length, slice_index, slice_index_or, unwrap_or}
use Rattle.nrm_model.specs.Inventory.{inventory_of, uses_leg}
use Rattle.nrm_model.specs.Network.{NetworkValue}
use Rattle.nrm_virtual.specs.Table.{bucket_in}
use Rattle.nrm_virtual.specs.Inner.Written.{AreWritten}
use Rattle.nrm_plan.specs.Nesting.{NestsValue, level_at}

-- those protected from a product on one of its legs: the seats protected for the buckets above its own
abbrev pub protected_at : NestsValue → ℕ → ℕ → ℕ
protected_at nests leg product = level_at (slice_index_or nests.protections leg []) (unwrap_or (bucket_in nests.buckets leg product) 1 - 1)

-- leg by leg, and on each leg product by product: those protected from it, and 0 where it doesn't use the leg
abbrev pub AreProtectedInAll : NetworkValue → NestsValue → List ℕ → Type 0
AreProtectedInAll net nests protected =
    AreWritten (uses_leg (inventory_of net)) (protected_at nests) (length net.legs) (length net.products) (length net.legs) protected

-- the place of a pair in the list, where so many products are on each leg, and the seats there
pub record IsProtectedAt (protected : List ℕ) (products leg product seats : ℕ) : Type 0 where
  pub within : leg * products + product < length protected
  pub seats_are : slice_index protected (leg * products + product) ≡ seats

-- each pair of the table has its seats in the list
abbrev pub AreProtected : NestsValue → ℕ → List ℕ → Type 0
AreProtected nests products protected =
    (leg product bucket : ℕ) → bucket_in nests.buckets leg product ≡ Some bucket
    → IsProtectedAt protected products leg product (level_at (slice_index_or nests.protections leg []) (bucket - 1))
