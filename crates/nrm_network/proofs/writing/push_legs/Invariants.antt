use Rattle.std.proofs.Common.{◌≡◌, ◌++◌, take, flat_map}
use Rattle.nrm_network.specs.Canonical.{leg_fields}
use Rattle.nrm_network.specs.Inner.RowText.{row_text}
use Rattle.nrm_network.proofs.writing.push_legs.Given as goal

abbrev pub invariant-loop-i : goal.invariant-loop-i
invariant-loop-i l = l.text.items ≡ l.fn.text.items ++ flat_map (λ leg. row_text (leg_fields leg)) (take l.i l.net.legs)
