use Rattle.std.proofs.Common.{length}
use Rattle.nrm_model.specs.Inventory.{inventory_of, uses_leg}
use Rattle.nrm_virtual.specs.Buckets.{bucket_of}
use Rattle.nrm_virtual.specs.Inner.Written.{AreWritten}
use Rattle.nrm_virtual.proofs.table.BucketTable.build.Given as goal

-- the buckets of the legs so far
abbrev pub invariant-loop-leg : goal.invariant-loop-leg
invariant-loop-leg l = AreWritten (uses_leg (inventory_of l.net)) (bucket_of l.net l.cert) (length l.net.legs) (length l.net.products) l.leg l.buckets.items
