-- The nest is that of the products so far.
use Rattle.std.proofs.Common.{◌≡◌, ◌≤◌, All, length, map, take}
use Rattle.nrm_model.specs.Inventory.{inventory_of, products_on}
use Rattle.nrm_emsr.specs.Inner.Nest.{IsKnown, nested_of}
use Rattle.nrm_emsr.proofs.nest.nested_on.Given as goal

abbrev pub invariant-loop-product : goal.invariant-loop-product
invariant-loop-product l = record {
  nest : l.nest.items ≡ map (nested_of l.net l.cert l.leg) (take l.product-index (products_on (inventory_of l.net) l.leg));
  few : length l.nest.items ≤ l.product-index;
  known : All (IsKnown (length l.net.products)) l.nest.items;
}
