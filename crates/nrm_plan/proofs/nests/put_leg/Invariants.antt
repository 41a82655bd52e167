use Rattle.std.proofs.Common.{Vec, ℕ, ◌≡◌, ◌*◌, length, map, take}
use Rattle.std.specs.declared.alloc.Global.{Global}
use Rattle.nrm_model.specs.Inventory.{inventory_of, products_on}
use Rattle.nrm_virtual.specs.Inner.Written.{written}
use Rattle.nrm_plan.specs.Inner.Protected.{protected_at}
use Rattle.nrm_plan.proofs.nests.put_leg.Given as goal

-- the seats protected from the products so far
abbrev pub invariant-loop-product : goal.invariant-loop-product
invariant-loop-product l =
    l.protected.items
    ≡ written (l.leg * length l.net.products) (protected_at (record { buckets = l.buckets; protections = map (λ (v : Vec ℕ Global). v.items) l.protections }) l.leg)
    (take l.product-index (products_on (inventory_of l.net) l.leg)) l.initial.protected.items
