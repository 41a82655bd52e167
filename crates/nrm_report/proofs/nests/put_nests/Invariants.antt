use Rattle.std.proofs.Common.{◌≡◌, flat_map}
use Rattle.std.specs.Io.KnownBytes.{Appends}
use Rattle.std.specs.List.{range_with_len}
use Rattle.nrm_model.specs.Inventory.{inventory_of, products_on}
use Rattle.nrm_report.specs.Texts.{nest_line}
use Rattle.nrm_report.proofs.nests.put_nests.Given as goal

-- the lines of the legs so far went out, and the count stands as it did
abbrev pub invariant-loop-leg : goal.invariant-loop-leg
invariant-loop-leg g l = record {
  sent : Appends (g.K.Sink.held l.initial.sink) (g.K.Sink.held l.sink) (flat_map (λ i. flat_map (nest_line l.net l.certificate i) (products_on (inventory_of l.net) i)) (range_with_len 0 l.leg));
  count : g.K.Sink.faults l.sink ≡ g.K.Sink.faults l.initial.sink;
}
