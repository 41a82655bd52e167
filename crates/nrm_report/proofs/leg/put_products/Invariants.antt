use Rattle.std.proofs.Common.{◌≡◌, flat_map, take}
use Rattle.std.specs.Io.KnownBytes.{Appends}
use Rattle.nrm_model.specs.Inventory.{inventory_of, products_on}
use Rattle.nrm_report.specs.Texts.{on_line}
use Rattle.nrm_report.proofs.leg.put_products.Given as goal

-- the lines of the products so far went out, and the count stands as it did
abbrev pub invariant-loop-product : goal.invariant-loop-product
invariant-loop-product g l = record {
  sent : Appends (g.K.Sink.held l.initial.sink) (g.K.Sink.held l.sink) (flat_map (on_line l.net l.book.bookings l.leg) (take l.product-index (products_on (inventory_of l.net) l.leg)));
  count : g.K.Sink.faults l.sink ≡ g.K.Sink.faults l.initial.sink;
}
