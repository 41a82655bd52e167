use Rattle.std.proofs.Common.{◌≡◌, ◌≤◌, ◌+◌, ◌*◌, ◌++◌, flat_map, length, take}
use Rattle.nrm_findings.specs.LegValues.{class_line}
use Rattle.nrm_findings.proofs.values.push_classes.Given as goal

-- the classes so far stand in the text
abbrev pub invariant-loop-product : goal.invariant-loop-product
invariant-loop-product l = record {
  text : l.text ≡ l.initial.text ++ flat_map (class_line l.net) (take l.product-index l.products);
  length : length l.text ≤ length l.initial.text + 40 * l.product-index;
}
