use Rattle.std.proofs.Common.{Vec, ℕ, length, map}
use Rattle.std.specs.declared.alloc.Global.{Global}
use Rattle.nrm_model.specs.Inventory.{inventory_of, uses_leg}
use Rattle.nrm_virtual.specs.Inner.Written.{AreWritten}
use Rattle.nrm_plan.specs.Inner.Protected.{protected_at}
use Rattle.nrm_plan.proofs.nests.protected_in_all.Given as goal

-- the seats protected on the legs so far
abbrev pub invariant-loop-leg : goal.invariant-loop-leg
invariant-loop-leg l =
    AreWritten (uses_leg (inventory_of l.net)) (protected_at (record { buckets = l.buckets; protections = map (λ (v : Vec ℕ Global). v.items) l.protections }))
    (length l.net.legs) (length l.net.products) l.leg l.protected.items
