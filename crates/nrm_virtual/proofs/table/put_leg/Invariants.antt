use Rattle.std.proofs.Common.{◌≡◌, ◌*◌, length, take}
use Rattle.nrm_model.specs.Inventory.{inventory_of, products_on}
use Rattle.nrm_virtual.specs.Buckets.{bucket_of}
use Rattle.nrm_virtual.specs.Inner.Written.{written}
use Rattle.nrm_virtual.proofs.table.put_leg.Given as goal

-- the buckets of the products so far
abbrev pub invariant-loop-product : goal.invariant-loop-product
invariant-loop-product l =
    l.buckets.items ≡ written (l.leg * length l.net.products) (bucket_of l.net l.cert l.leg) (take l.product-index (products_on (inventory_of l.net) l.leg)) l.initial.buckets.items
